-- Short texts and what is read of them, for a table of three numbers.
use Rattle.std.proofs.Common.{◌≡◌, [], ◌∷◌, Ok, Err, codes, refl}
use Rattle.table_files.specs.TableText.{judged, read_table, step}
use Rattle.table_files.specs.declared.fault.TableFault.TheVariants.{BadByte, TooLarge, Repeated, Count}

three : read_table 3 (codes "2, 00 1,") ≡ Ok (2 ∷ 0 ∷ 1 ∷ [])
unfolding step judged
three = refl

bad : read_table 3 (codes "2 x") ≡ Err (BadByte 2)
unfolding step judged
bad = refl

large_before_bad : read_table 3 (codes "0 03x") ≡ Err (TooLarge 2 3)
unfolding step judged
large_before_bad = refl

repeated : read_table 3 (codes "1,1 3") ≡ Err (Repeated 1)
unfolding step judged
repeated = refl

few : read_table 3 (codes "1 2") ≡ Err (Count 2)
unfolding step judged
few = refl
