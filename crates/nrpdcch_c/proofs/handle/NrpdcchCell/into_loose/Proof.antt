-- `into_loose` hands the handle's memory to the box.
use Rattle.std.proofs.Common.{◌≡◌, List, [], ◌∷◌, ◌++◌, refl, sym, ap, subst, ◌∙◌, is_some}
use mathlib.Core.Bool.{Bool, true}
use mir.Syntax.{impl, tnil, dnil}
use mir.Val.{Val, vptr}
use base.Logic.{SProp, ent, id⊢}
use prog.Wp.{WpFn}
use contract.Running.{tables}
use types.Kit.{‵, raw, ◌⊛◌, ◌$◌, ◌∵◌, !, qed, done, move, keep, split, join, fsplit, suffices}
use types.Run.{enter, stop, fld, of_opd, no_more, and_then, returns}
use types.ByLocal.{alloc_all, pass_all, free_all, look_at, get, get_in, sets}
use types.Part.{agg, sub, whole}
use denote.Exit.{yes}
use denote.RattleType.{RattleType, owns}
use denote.RawPtr.{Ptr, block_ptr}
use denote.Signature.{plain, types_at}
use denote.Steps.{nothing, heard}
use denote.Triple.Entry.{alive}
use denote.Triple.Walked.{Stays, stay_dropped, walk_of, says, ends_at}
use Rattle.core.proofs.alloc.Calls.{Al, Goes-blank, handle_tells}
use Rattle.std.proofs.raw_atomic.Walks.{proved_at}
use Rattle.std.specs.contracts.alloc.Global as heap
use Rattle.std.proofs.alloc.Global.TheLaws as heap_laws
use Rattle.std.specs.contracts.impls.GlobalAllocator.TheImpl.{ghosts}
use Rattle.nrpdcch_c.proofs.HandleValues.{word, handle_out, handle_full}
use Rattle.nrpdcch_c.proofs.Values.{both, loose_good, loose_in}
use Rattle.nrpdcch_c.specs.contracts.handle.NrpdcchCell as handle
use Rattle.nrpdcch_c.specs.contracts.handle.Opened as opened
use Rattle.nrpdcch_c.specs.contracts.handle.NrpdcchCell.into_loose as f
use Rattle.nrpdcch_c.proofs.handle.NrpdcchCell.into_loose.Statement.{statement}
use Rattle.nrpdcch_c.proofs.handle.NrpdcchCell.into_loose.Code as code

pub into_loose_spec : {M : Type 1} → statement M
into_loose_spec 𝓤 𝓛 𝓜 𝓡 wired =
    let c = f.clauses 𝓛 𝓜.mem 𝓡.returns in let 𝓣 = tables 𝓤 𝓛.H 𝓜 𝓡 𝓡.env in
    let R : RattleType = opened.the_row in let Z : RattleType = heap.the_row in let LZ = heap_laws.the_row_laws in
    let N : RattleType = handle.the_row in
    let al : Al = record { row = Z; laws = LZ; g = ghosts; d = impl [] tnil dnil; drops = impl [] tnil dnil } in
    let hs : Stays f.ended.signature.params f.ended.kept = (
      stay_dropped (plain (λ _. N)) yes,
      (
        stay_dropped (plain (λ _. Z))
            yes,
        tt,
      ),
    ) in
    proved_at 𝓛 f.ended hs c 𝓜 𝓡 (
      Goes-blank 𝓛 0 (plain (λ _. N)) yes (λ κs x w. tt),
      (
        Goes-blank 𝓛 0 (plain (λ _. Z)) yes
            (λ κs x w. tt),
        tt,
      ),
    ) f.Key.name code.function (code.unfolded 𝓤 𝓛.H 𝓜 𝓡 wired) (λ z are.
    let d = z.0.3.0 in let a = z.0.3.1.0 in let Post : Val → SProp 𝓤 = (walk_of 𝓛 f.ended hs c).post z in
    let Run : List Val → SProp 𝓤 = λ ws. WpFn 𝓤 𝓛.H 𝓣.C 𝓣.Λ code.function ws Post in
    qed 𝓛 ((raw (alive 𝓛 f.signature z.0.0 z.0.1)
    ⊛ ‵ (owns (types_at f.signature.params z.0.0) z.0.3 z.0.4)) ∷ raw ((c z.0.0 z.0.3).requires z.1) ∷ []) ∵
    move ! (1 ∷ []) $ heard ! (is_some d.value ≡ true) (λ holds.
    split ! $ move ! (1 ∷ []) $ fsplit ! $ handle_out ! d z.0.4.0 (λ ws.
    handle_full ! d.full d.at d.value holds (λ b o x et ep ev.
    -- [the box; the allocator and no more; the tokens]
    move ! (1 ∷ []) $ fsplit ! $ handle_tells al ! a z.0.4.1.0 (λ h ea fits.
    keep ! (2 ∷ 0 ∷ []) $
    let w : Val = word (block_ptr b o) true in
    let told = ws ∙ ap (λ (p : Ptr). word p d.full ∷ []) ep ∙ ap (λ (t : Bool). word (block_ptr b o) t ∷ []) et in
    suffices ! (Run (w ∷ h ∷ [])) (subst (λ (us : List Val). ent 𝓤 (Run (w ∷ h ∷ [])) (Run us))
    (sym (λ i. told i ++ (ea i ++ []))) (id⊢ 𝓤 (Run (w ∷ h ∷ [])))) $
    enter ! _ _ _ _ _ $ alloc_all ! (λ l. pass_all ! refl ((tt, (tt, (tt, tt))), (fits, tt)) $
    sets ! (of_opd ! (get_in ! (fld ! refl (stop !)) (sub ! 0 refl (whole !)))) refl (tt, tt) $
    sets ! (of_opd ! (get ! refl)) refl (tt, tt) $
    sets ! (agg ! (and_then ! (get ! refl) (and_then ! (get ! refl) (no_more !)))) refl (loose_good R Z LZ ghosts b o h fits) $
    returns ! (look_at ! 0 refl) $ free_all ! refl $ loose_in R Z LZ ghosts ! b o h a x $
    suffices ! _ (ends_at 𝓛 f.ended hs c z (both (vptr b o) h) (record { at = block_ptr b o; alloc = a; value = x })
    (tt, (tt, tt)) (tt, (tt, tt))) $
    says ! (sym ev) $
    nothing ! $ nothing ! $ join ! $ nothing ! $ join ! $ nothing ! $ done !))))))
