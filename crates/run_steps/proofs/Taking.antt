-- What one fetch gives.
use Rattle.std.proofs.Common.{◌≡◌, ◌<◌, ◌≤◌, inl, inr, ℕ, Bool, true, false, cond, leb, List, [], Option, Some, None}
use Rattle.std.proofs.Common.{Result, Ok, Err, length, refl, sym, ap, ◌∙◌, subst, arith, rules}
use Rattle.outside.specs.Causes.{Fetches}
use Rattle.outside.specs.Views.{ShelfView}
use Rattle.outside.specs.declared.faults.FetchFault.{FetchFault}
use Rattle.outside.specs.declared.faults.FetchFault.TheVariants as fault
use Rattle.run_steps.specs.declared.stops.Stop.TheVariants.{OutOfMemory}
use Rattle.run_steps.specs.Outcome.{Bytes, TooLong, Fault, given_of, limit, raw, unread}
use Rattle.run_steps.specs.Steps.{Step, IsGiven, IsLater}

-- bytes within the limit are given as they are
pub given_of_within : (bytes : List ℕ) → length bytes ≤ limit → given_of bytes ≡ Bytes bytes
given_of_within bytes h = let e : leb (length bytes) limit ≡ true = search rules in rw e

given_of-beyond : (bytes : List ℕ) → limit < length bytes → given_of bytes ≡ TooLong
given_of-beyond bytes h = let e : leb (length bytes) limit ≡ false = search rules in rw e

fits-cond : (b : Bool) (told bytes : List ℕ) → leb (length told) limit ≡ b → cond b (Bytes told) TooLong ≡ Bytes bytes
    → length bytes ≤ limit
fits-cond true told bytes h e =
    let same : told ≡ bytes = cc in
    let le : length told ≤ limit = search rules in
    subst (λ (b : List ℕ). length b ≤ limit) same le
fits-cond false told bytes h e = absurd (cc)

fits-given : (told bytes : List ℕ) → given_of told ≡ Bytes bytes → length bytes ≤ limit
fits-given told bytes e = fits-cond (leb (length told) limit) told bytes refl e

no_fault_cond : (b : Bool) (told : List ℕ) → cond b (Bytes told) TooLong ≡ Fault → ⊥
no_fault_cond true told e = cc
no_fault_cond false told e = cc

no_fault : (told : List ℕ) → given_of told ≡ Fault → ⊥
no_fault told e = no_fault_cond (leb (length told) limit) told e

-- a shelf after a fetch
after_fetch : (old new : ShelfView) (name items : List ℕ) (result : Result (Unit {0}) FetchFault)
    → Fetches old new name limit items result → IsLater old new
after_fetch old new name items result f = record { faults = f.faults_later; longs = f.longs_later; told = f.told }

-- a fetch that gave bytes
pub took_bytes : (old new : ShelfView) (name items : List ℕ) → Fetches old new name limit items (Ok tt)
    → Step raw name old new (Ok items)
took_bytes old new name items f = record {
  gave = Bytes items;
  given = record {
    fits = λ bytes e. let same : items ≡ bytes = cc in subst (λ (b : List ℕ). length b ≤ limit) same f.fits;
    agrees =
        λ bytes e. let same : items ≡ bytes =
        f.bytes bytes e in
        inl (ap Bytes same ∙ sym (given_of_within bytes (subst (λ (b : List ℕ). length b ≤ limit) same f.fits)));
    faulted = λ e. absurd (cc);
    longed = λ t e. absurd (cc);
  };
  is = refl;
  missed = f.names_kept (λ e. cc) (λ e. cc);
  longed = λ e. absurd (cc);
  quiet = inr (f.kept (λ e. cc));
  short = inr (f.longs_kept (λ e. cc));
  later = after_fetch old new name items (Ok tt) f;
}

-- what fills in a fetch that did not come fits, and is what is told
given_told : (old new : ShelfView) (name : List ℕ) (told : Option (List ℕ)) → old.told name ≡ told
    → IsGiven old new name (unread told)
given_told old new name None is = record {
  fits = λ bytes e. let same : [] ≡ bytes = cc in subst (λ (b : List ℕ). length b ≤ limit) same (omega arith);
  agrees = λ bytes e. absurd (cc);
  faulted = λ e. absurd (cc);
  longed = λ t e. absurd (cc);
}
given_told old new name (Some told) is = record {
  fits = fits-given told;
  agrees = λ bytes e. inl (let same : told ≡ bytes = cc in ap given_of same);
  faulted = λ e. absurd (no_fault told e);
  longed = λ t e. absurd (cc);
}

-- what fills in a fetch that was not made
pub given-unread : (old new : ShelfView) (name : List ℕ) → IsGiven old new name (unread (old.told name))
given-unread old new name = given_told old new name (old.told name) refl

-- a fetch that found no memory
pub took_none : (old new : ShelfView) (name items : List ℕ) → Fetches old new name limit items (Err fault.NoMemory)
    → Step raw name old new (Err OutOfMemory)
took_none old new name items f = record {
  gave = unread (old.told name);
  given = given-unread old new name;
  is = tt;
  missed = inl (record { noted = f.names_kept (λ e. cc) (λ e. cc); says = record { read = λ e. cc; long = λ e. cc } });
  longed = λ e. inl tt;
  quiet = inr (f.kept (λ e. cc));
  short = inr (f.longs_kept (λ e. cc));
  later = after_fetch old new name items (Err fault.NoMemory) f;
}
