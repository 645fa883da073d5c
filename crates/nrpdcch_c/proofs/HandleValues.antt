-- The machine values of a handle.
use Rattle.std.proofs.Common.{◌≡◌, ℕ, List, [], ◌∷◌, ◌++◌, refl, sym, ap, subst, ◌∙◌, Option, None, Some, is_some, lit<}
use mathlib.Core.Bool.{Bool, true, false}
use seplogic.Ra.Ura.{Ura}
use mir.Val.{Val, vbool, vstruct, vcons, vnil, of_list}
use types.Logic.{Logic, sem}
use types.Kit.{Item, Goal, Seq, Step, step, ‵, ◌$◌, drop, fsplit, fjoin, fpick, fpack, feq_i, feq_l}
use denote.RattleType.{Valss}
use denote.Builtin.{bool, RawPtr}
use denote.RawPtr.{Ptr, block_ptr, null_ptr, ptr_val, in_a_block}
use lib.Dec.{T}
use base.Logic.{never, fst∗}
use mir.Raw.{raw as bare}
use denote.Memory.{lone}
use Rattle.std_alloc.specs.Box.Ownership.{box_owns}
use denote.Steps.{nothing}
use denote.Struct.Struct.{within}
use denote.Struct.Owning.{shape}
use denote.Struct.Tuple.{Tuple}
use denote.Param.{layout}
use Rattle.core.proofs.cell.Inside.{Good}
use Rattle.nrpdcch_c.proofs.Values.{both}
use Rattle.nrpdcch_c.specs.Owned.{frees, handle_owns}
use Rattle.nrpdcch_c.specs.contracts.handle.NrpdcchCell as handle
use Rattle.nrpdcch_c.specs.contracts.handle.Opened as opened

abbrev pub word : Ptr → Bool → Val
word p t = vstruct (vcons (ptr_val p) (vcons (vbool t) vnil))

-- it is well formed
pub word_good : (p : Ptr) (t : Bool) → Good (layout handle.the_row) (word p t)
word_good (block_ptr b o) t = (tt, (tt, (tt, tt)))
word_good null_ptr t = (tt, (record { fits = lit< tt }, (tt, tt)))

-- with a flag before it
pub flag_good : (p : Ptr) (t : Bool) → Good (layout (Tuple (bool ∷ handle.the_row ∷ []))) (both (vbool t) (word p t))
flag_good (block_ptr b o) t = (tt, (tt, ((tt, (tt, tt)), tt)))
flag_good null_ptr t = (tt, (tt, ((record { fits = lit< tt }, (tt, tt)), tt)))

module _ {M : Type 1} {𝓤 : Ura M} {𝓛 : Logic 𝓤} {K : Type 0} {Γ : List (Item 𝓤)} {G : Goal 𝓤 𝓛.H} where
  pub handle_in : K → (p : Ptr) (t : Bool) (x : Option opened.the_row.Denot)
      → Step K 𝓛 (‵ (handle.the_row.own_val (record { at = p; full = t; value = x })
      (word p t ∷ [])) ∷ Γ) G (‵ (handle_owns t p x) ∷ Γ) G
  handle_in k p t x = step (λ s. let v : Val = word p t in
      nothing k $ feq_i k (List Val) (vbool t ∷ []) (vbool t ∷ []) refl $ fjoin k $
      feq_i k (List Val) (ptr_val p ∷ []) (ptr_val p ∷ []) refl $ fjoin k $ feq_i k (List Val) (v ∷ []) (v ∷ []) refl $
      fjoin k $
      fpack k (Valss (RawPtr ∷ bool ∷ [])) (within (shape handle.the_type) (p, (t, tt)) (v ∷ []))
      (ptr_val p ∷ [], (vbool t ∷ [], tt)) $
      fjoin k $ s)

  pub handle_out : K → (d : handle.the_row.Denot) (vs : List Val)
      → (vs ≡ word d.at d.full ∷ [] → Seq K 𝓛 (‵ (handle_owns d.full d.at d.value) ∷ Γ) G)
      → Seq K 𝓛 (‵ (handle.the_row.own_val d vs) ∷ Γ) G
  handle_out k d vs next =
      fsplit k $ fpick k (λ vss. fsplit k $ feq_l k (λ ev. fsplit k $ feq_l k (λ ep. fsplit k $ feq_l k (λ eb. drop k $
      next (ev ∙ (λ i. vstruct (of_list (ep i ++ (eb i ++ []))) ∷ []))))))

  -- a handle that holds something holds its box
  pub handle_full : K → (t : Bool) (p : Ptr) (v : Option opened.the_row.Denot) → is_some v ≡ true
      → ((b o : ℕ) (x : opened.the_row.Denot) → t ≡ true → p ≡ block_ptr b o → v ≡ Some x
      → Seq K 𝓛 (‵ (box_owns frees opened.the_row (block_ptr b o) x) ∷ Γ) G)
      → Seq K 𝓛 (‵ (handle_owns t p v) ∷ Γ) G
  handle_full k false p v e next = feq_l k (λ n. absurd (subst (λ (u : Option opened.the_row.Denot). T (is_some u)) n (subst
      T (sym e) tt)))
  handle_full k true p None e next = absurd (subst T (sym e) tt)
  handle_full k true p (Some x) e next =
      in_a_block k p (λ q. box_owns frees opened.the_row q x) (fst∗ 𝓤 (never 𝓤)
      (sem 𝓛 (frees (bare (lone opened.the_row.mir)) null_ptr))) (λ b o ep. next b o x refl ep refl)

  -- whether a handle holds something is told by its `full`
  pub handle_says : K → (t : Bool) (p : Ptr) (v : Option opened.the_row.Denot)
      → (t ≡ is_some v → Seq K 𝓛 (‵ (handle_owns t p v) ∷ Γ) G)
      → Seq K 𝓛 (‵ (handle_owns t p v) ∷ Γ) G
  handle_says k false p v next = feq_l k (λ n. feq_i k (Option opened.the_row.Denot) v None n $ next (sym (ap is_some n)))
  handle_says k true p None next = feq_l k (λ n. absurd (subst T n tt))
  handle_says k true p (Some x) next = next refl
