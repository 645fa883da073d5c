-- `told` reads the handle's flag.
use Rattle.std.proofs.Common.{List, [], ◌∷◌, ◌++◌, refl, sym, subst}
use mir.Val.{Val}
use base.Logic.{SProp, ent, id⊢}
use prog.Wp.{WpFn}
use contract.Running.{tables}
use types.Kit.{‵, raw, ◌⊛◌, ◌$◌, ◌∵◌, !, qed, done, move, keep, split, join, fsplit, suffices}
use types.Run.{enter, stop, fld, of_opd, no_more, and_then, returns}
use types.ByLocal.{alloc_all, pass_all, free_all, look_at, get, get_in, sets}
use types.Part.{agg, sub, whole}
use denote.Exit.{yes}
use denote.RattleType.{RattleType, owns}
use denote.Signature.{plain, types_at}
use denote.Steps.{nothing}
use denote.Triple.Entry.{alive}
use denote.Triple.Walked.{Stays, stay_dropped, walk_of, ends_at}
use Rattle.core.proofs.alloc.Calls.{Goes-blank}
use Rattle.std.proofs.raw_atomic.Walks.{proved_at}
use Rattle.core.proofs.mem.Facts.{says_two}
use Rattle.core.proofs.atomic.Steps.{Ptr-Good}
use denote.Builtin.{bool}
use types.Kit.{feq_i}
use mir.Val.{vbool}
use Rattle.nrpdcch_c.proofs.HandleValues.{word, word_good, flag_good, handle_in, handle_out, handle_says}
use Rattle.nrpdcch_c.specs.contracts.handle.NrpdcchCell as handle
use Rattle.nrpdcch_c.proofs.Values.{both, pair_in}
use Rattle.nrpdcch_c.specs.contracts.handle.NrpdcchCell.told as f
use Rattle.nrpdcch_c.proofs.handle.NrpdcchCell.told.Statement.{statement}
use Rattle.nrpdcch_c.proofs.handle.NrpdcchCell.told.Code as code

pub told_spec : {M : Type 1} → statement M
told_spec 𝓤 𝓛 𝓜 𝓡 wired =
    let c = f.clauses 𝓛 𝓜.mem 𝓡.returns in let 𝓣 = tables 𝓤 𝓛.H 𝓜 𝓡 𝓡.env in let N : RattleType = handle.the_row in
    let hs : Stays f.ended.signature.params f.ended.kept = (stay_dropped (plain (λ _. N)) yes, tt) in
    proved_at 𝓛 f.ended hs c 𝓜 𝓡 (Goes-blank 𝓛 0 (plain (λ _. N)) yes (λ κs x w. tt), tt) f.Key.name code.function
    (code.unfolded 𝓤 𝓛.H 𝓜 𝓡 wired) (λ z are.
    let d = z.0.3.0 in let Post : Val → SProp 𝓤 = (walk_of 𝓛 f.ended hs c).post z in
    let Run : List Val → SProp 𝓤 = λ ws. WpFn 𝓤 𝓛.H 𝓣.C 𝓣.Λ code.function ws Post in
    let w : Val = word d.at d.full in
    qed 𝓛 ((raw (alive 𝓛 f.signature z.0.0 z.0.1)
    ⊛ ‵ (owns (types_at f.signature.params z.0.0) z.0.3 z.0.4)) ∷ raw ((c z.0.0 z.0.3).requires z.1) ∷ []) ∵
    split ! $ move ! (1 ∷ []) $ fsplit ! $ handle_out ! d z.0.4.0 (λ ws. handle_says ! d.full d.at d.value (λ es.
    keep ! (0 ∷ []) $
    suffices ! (Run (w ∷ [])) (subst (λ (us : List Val). ent 𝓤 (Run (w ∷ [])) (Run us)) (sym (λ i. ws i ++ []))
    (id⊢ 𝓤 (Run (w ∷ [])))) $
    enter ! _ _ _ _ _ $ alloc_all ! (λ l. pass_all ! refl (word_good d.at d.full, tt) $
    sets ! (of_opd ! (get_in ! (fld ! refl (stop !)) (sub ! 0 refl (whole !)))) refl (Ptr-Good d.at) $
    sets ! (of_opd ! (get_in ! (fld ! refl (stop !)) (sub ! 1 refl (whole !)))) refl (tt, tt) $
    sets ! (agg ! (and_then ! (get ! refl) (and_then ! (get ! refl) (no_more !)))) refl (word_good d.at d.full) $
    sets ! (agg ! (and_then ! (get ! refl) (and_then ! (get ! refl) (no_more !)))) refl (flag_good d.at d.full) $
    returns ! (look_at ! 0 refl) $ free_all ! refl $ handle_in ! d.at d.full d.value $
    feq_i ! (List Val) (vbool d.full ∷ []) (vbool d.full ∷ []) refl $ pair_in bool N ! d.full d (vbool d.full) w $
    suffices ! _ (ends_at 𝓛 f.ended hs c z (both (vbool d.full) w) (d.full, d) (tt, tt) (tt, tt)) $ says_two ! (es, refl) $
    nothing ! $ nothing ! $ join ! $ nothing ! $ done !))))
