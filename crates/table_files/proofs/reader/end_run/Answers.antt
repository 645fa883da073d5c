use Rattle.std.proofs.Common.{◌≡◌, ◌<◌, ◌==◌, length, take, false, true, arith}
use Rattle.std.specs.List.{list_any}
use Rattle.table_files.specs.NumbersInArray.{digits_of}
use Rattle.table_files.proofs.Flags.{flag_read, found_flags}
use Rattle.table_files.proofs.Parts.{found_room, found_part, found_few, found_read, found_repeated}
use Rattle.table_files.proofs.reader.end_run.Goals as goal

pub returns-then-seen-value-clause-read : goal.returns-then-seen-value-clause-read
returns-then-seen-value-clause-read c =
    let numbers = c.args.numbers.now in
    let run = c.in-Some.run' in
    let is = c.from-value.ensures in
    let below : run.value < length numbers = omega arith in
    rw c.in-Some.is
    (found_repeated (length numbers) (take c.args.found numbers) (digits_of run) below
    (flag_read (length numbers) run.value c.from-value.result c.args.seen.now (take c.args.found numbers) true
    c.requires.flags below is c.if-seen-value.true))

-- a number that is not too large is below the size
below_size : (c : goal.Else-seen-value) → c.in-Some.run'.value < length c.args.numbers.now
below_size c = let is = c.from-value.ensures in omega arith

-- a number whose flag is not set is none of those found
new_number : (c : goal.Else-seen-value)
    → list_any (λ number. number == c.in-Some.run'.value) (take c.args.found c.args.numbers.now) ≡ false
new_number c =
    flag_read (length c.args.numbers.now) c.in-Some.run'.value c.from-value.result c.args.seen.now
    (take c.args.found c.args.numbers.now) false c.requires.flags (below_size c) c.from-value.ensures c.if-seen-value.false

pub bounds-numbers-found : goal.bounds-numbers-found
bounds-numbers-found c =
    found_room c.args.numbers.now c.args.found c.in-Some.run'.value c.requires.few c.requires.part (below_size c)
    (new_number c)

pub returns-clause-read : goal.returns-clause-read
returns-clause-read c =
    rw c.in-Some.is
    (found_read c.args.numbers.now c.args.found (digits_of c.in-Some.run') (bounds-numbers-found c) (below_size c)
    (new_number c))

pub returns-clause-few : goal.returns-clause-few
returns-clause-few c = found_few c.args.numbers.now c.args.found c.in-Some.run'.value (bounds-numbers-found c)

pub returns-clause-part : goal.returns-clause-part
returns-clause-part c =
    found_part c.args.numbers.now c.args.found c.in-Some.run'.value (bounds-numbers-found c) c.requires.part (below_size c)
    (new_number c)

pub returns-clause-flags : goal.returns-clause-flags
returns-clause-flags c =
    rw c.from-value.ensures
    (found_flags c.args.numbers.now c.args.seen.now c.args.found c.in-Some.run'.value (bounds-numbers-found c) (below_size c)
    c.requires.flags)
