use Rattle.std.proofs.Common.{◌<◌, ◌^◌, ℕ, arith, sym, subst, ap, get_or, ◌++◌, ◌∙◌}
use Rattle.bits_core.specs.Bits.{bits_of}
use Rattle.dci_fields.specs.Payloads.{is_allowed}
use Rattle.dci_fields.specs.declared.names.FieldName.TheVariants as names
use Rattle.dci_fields.specs.declared.rows.FieldRow.{FieldRow}
use Rattle.dci_fields.proofs.GivenLists.{narrow_at, settled_value-fits}
use Rattle.dci_fields.proofs.RowPacking.{one_more_packed, next_within, packed_whole, settled_value_lt}
use Rattle.dci_fields.proofs.packing.pack_core.Goals as goal

pub settled_value-value-requires : goal.settled_value-value-requires
settled_value-value-requires c =
    let d : FieldRow = record { name = names.Identifier; width = 0 } in
    narrow_at c.args.rows.now c.loop-row.row-index d c.requires.list.narrow c.loop-row-test.true

pub overflow_cast-value : goal.overflow_cast-value
overflow_cast-value c =
    let d : FieldRow = record { name = names.Identifier; width = 0 } in
    omega (
      arith,
      c.settled_value-value.ensures,
      settled_value_lt c.args.rows.now c.args.format c.args.given.now
          c.loop-row.row-index d c.requires.list c.loop-row-test.true c.in_ok-check_given.ensures.known,
    )

pub is_allowed-requires : goal.is_allowed-requires
is_allowed-requires c =
    let d : FieldRow = record { name = names.Identifier; width = 0 } in
    narrow_at c.args.rows.now c.loop-row.row-index d c.requires.list.narrow c.loop-row-test.true

pub append_number-requires : goal.append_number-requires
append_number-requires c =
    let d : FieldRow = record { name = names.Identifier; width = 0 } in
    let P : ℕ → Type 0 = λ value. value < 2 ^ (get_or c.args.rows.now c.loop-row.row-index d).width in (
      omega arith,
      (
        omega arith,
        (
          omega (
            arith,
            next_within c.args.rows.now c.args.format c.args.given.now c.loop-row.row-index c.loop-row.payload d
                c.loop-row-test.true c.loop-row.invariant,
            c.requires.width,
            c.requires.size,
          ),
          (
            narrow_at c.args.rows.now c.loop-row.row-index d c.requires.list.narrow c.loop-row-test.true,
            subst P (sym c.settled_value-value.ensures)
                (settled_value-fits c.args.rows.now c.args.format c.args.given.now c.loop-row.row-index d c.requires.list
                c.loop-row-test.true c.in_ok-check_given.ensures.known),
          ),
        ),
      ),
    )

pub loop-row-preserved : goal.loop-row-preserved
loop-row-preserved c =
    let d : FieldRow = record { name = names.Identifier; width = 0 } in
    one_more_packed c.args.rows.now c.args.format c.args.given.now c.loop-row.row-index c.loop-row.payload
    c.append_number.new.self d c.loop-row-test.true c.loop-row.invariant
    (ap (λ (value : ℕ). is_allowed (get_or c.args.rows.now c.loop-row.row-index d).name c.args.format
    (get_or c.args.rows.now c.loop-row.row-index d).width value) (sym c.settled_value-value.ensures)
    ∙ sym c.is_allowed.ensures ∙ c.if-not-is_allowed.false)
    (c.append_number.ensures
    ∙ ap (λ (value : ℕ). c.loop-row.payload ++ bits_of (get_or c.args.rows.now c.loop-row.row-index d).width value)
    c.settled_value-value.ensures)

pub returns : goal.returns
returns c =
    packed_whole c.args.rows.now c.args.format c.args.given.now c.loop-row.row-index c.args.size c.loop-row.payload
    c.pad.new.payload c.requires.list
    c.in_ok-check_given.ensures.known c.loop-row-test.false c.loop-row.auto.row-index-end c.loop-row.invariant c.pad.ensures
