-- How far a whole write has come, and pieces taken one after another.
use Rattle.std.proofs.Common.{◌≡◌, ◌≤◌, ◌+◌, ◌-◌, ℕ, List, ◌++◌, Option, Some, None, length, take, drop, refl, ap, ◌∙◌}
use Rattle.std.proofs.Common.{append_assoc, append-nil, sym, [], arith, length-drop}
use Rattle.std.proofs.Math.Seq.{take-add}
use Rattle.std.proofs.lemmas.List.{take_rest}
use Rattle.outside.specs.Taken.{Takes}

-- two pieces taken one after the other are taken as one
pub takes-append : (old mid new : Option (List ℕ)) (xs ys : List ℕ) → Takes old mid xs → Takes mid new ys
    → Takes old new (xs ++ ys)
takes-append None mid new xs ys first second = rw first at second
takes-append (Some bytes) mid new xs ys first second =
    let joined = rw first at second in rw (← append_assoc) joined

-- nothing was taken
pub takes-nil : (taken : Option (List ℕ)) → Takes taken taken []
takes-nil None = refl
takes-nil (Some bytes) = ap (λ taken. Some taken) (sym (append-nil bytes))

-- the first `at` bytes of the piece were taken, and the count of faults is as it was
pub record IsPutSoFar (old new : Option (List ℕ)) (faults_old faults_new : ℕ) (piece : List ℕ) (at : ℕ) : Type 0 where
  pub within : at ≤ length piece
  pub takes : Takes old new (take at piece)
  pub kept : faults_new ≡ faults_old

-- one more `put`, which took n bytes of the rest
pub put_more : (old mid new : Option (List ℕ)) (faults_old faults_mid faults_new : ℕ) (piece : List ℕ) (at n : ℕ) →
    IsPutSoFar old mid faults_old faults_mid piece at → n ≤ length (take (length piece - at) (drop at piece)) →
    Takes mid new (take n (take (length piece - at) (drop at piece))) → faults_new ≡ faults_mid →
    IsPutSoFar old new faults_old faults_new piece (at + n)
put_more old mid new faults_old faults_mid faults_new piece at n so_far within takes kept =
    let rest = take_rest piece at in
    let fits : n ≤ length (drop at piece) = rw rest at within in
    let taken : Takes mid new (take n (drop at piece)) = rw rest at takes in
    record {
      within = omega (arith, length-drop at piece);
      takes = rw (take-add at n piece) (takes-append old mid new (take at piece) (take n (drop at piece)) so_far.takes taken);
      kept = kept ∙ so_far.kept;
    }
