-- What the exit of a `?` keeps.
use Rattle.std.proofs.Common.{◌≡◌, Result, Ok, Err, sym, subst}
use Rattle.std.specs.Result.{IfErr, IsErrAnd}

-- an error that holds a fact holds it after the exit of a `?`
pub exit_keeps : {T E : Type 0} (P : E → Type 0) (r : Result T E) (e : E) → IsErrAnd r (λ y. y ≡ e) → P e → IfErr r P
exit_keeps P (Ok x) e h k = tt
exit_keeps P (Err y) e h k = subst P (sym h) k
