-- The formats of a legal cell: their rows are lists of fields, with so many bits.
use Rattle.std.proofs.Common.{◌≡◌, ℕ, ◌+◌, ◌<◌, ◌≤◌, true, false, not, ◌&&◌, nat_eq, nat_lt, List, ◌∷◌, length, refl, arith}
use Rattle.std.proofs.Common.{rules}
use Rattle.std.proofs.lemmas.Bool.{lt-ltb, or_left}
use Rattle.alloc_fields.proofs.LeastBits.{bits_for_le}
use Rattle.rrc_settings.specs.declared.settings.Bwp.{Bwp}
use Rattle.rrc_settings.specs.declared.settings.Codebook.{Codebook}
use Rattle.rrc_settings.specs.declared.settings.UplinkFields.{UplinkFields}
use Rattle.rrc_settings.specs.declared.settings.DownlinkFields.{DownlinkFields}
use Rattle.rrc_settings.specs.LegalCell.{IsLegalBwp, IsLegalUplink, IsLegalDownlink}
use Rattle.dci_fields.specs.declared.names.FieldName.TheVariants as names
use Rattle.dci_fields.specs.declared.rows.FieldRow.{FieldRow}
use Rattle.dci_fields.specs.FieldLists.{width_of, are_apart, has_fdra, AreNarrow, IsFieldList}
use Rattle.dci_fields.specs.Assignments.{fdra_width}
use Rattle.dci_fields.specs.FormatRows.{row, has_type1, rows_00, rows_10, rows_01, rows_11}
use Rattle.dci_fields.specs.FittedRows.{fdra_of}
use Rattle.dci_fields.proofs.SpanWidths.{IsSpanWidth, fdra_width_is}
use Rattle.dci_fields.proofs.FormatWidths.{set_le, bwp_le, down_index_le, up_index_is, up_ports_within, down_ports_within}

-- rows that begin with the identifier and the frequency assignment
begins_with_fdra : (f : ℕ) (rest : List FieldRow) → IsSpanWidth f → length rest ≤ 30
    → are_apart (row names.Identifier 1 ∷ row names.Fdra f ∷ rest) ≡ true → AreNarrow rest
    → IsFieldList (row names.Identifier 1 ∷ row names.Fdra f ∷ rest)
begins_with_fdra f rest h few apart narrow =
    let low = h.least in let high = h.most in
    record {
      few = omega (arith, few);
      begins = (refl, refl);
      apart = apart;
      fdra = or_left (nat_lt 0 f) (has_fdra rest) (lt-ltb 0 f (omega (arith, low)));
      narrow = (omega arith, (omega (arith, high), narrow));
    }

-- format 0_0
pub list_00 : (f : ℕ) → IsSpanWidth f → IsFieldList (rows_00 f)
list_00 f h = begins_with_fdra f _ h (omega arith) refl (search rules)

-- format 1_0
pub list_10 : (f : ℕ) → IsSpanWidth f → IsFieldList (rows_10 f)
list_10 f h = begins_with_fdra f _ h (omega arith) refl (search rules)

-- a list of fields of 23 bits and more, up to a limit, with a frequency assignment
pub record IsFormat (limit : ℕ) (rows : List FieldRow) : Type 0 where
  pub list : IsFieldList rows
  pub some : 0 < fdra_of rows
  pub least : 23 ≤ width_of rows
  pub most : width_of rows ≤ limit

-- format 0_1, each width a part of the whole
pub format_01 : (codebook : Codebook) (bwp : Bwp) (f : UplinkFields) → IsLegalBwp bwp → IsLegalUplink codebook f
    → IsFormat 74 (rows_01 codebook bwp f)
format_01 codebook bwp f h k =
    let fdra = fdra_width_is bwp f.allocation f.rbg_config h in
    let fl = fdra.least in let fm = fdra.most in
    let some : 0 < fdra_width bwp f.allocation f.rbg_config = omega (arith, fl) in
    let a = bwp_le f.bwps in
    let t = k.tdra in
    let b = set_le (f.hopping && has_type1 f.allocation) 1 in
    let c = up_index_is codebook in let cl = c.0 in let cm = c.1 in
    let d = set_le f.second_dai 2 in
    let s = bits_for_le f.srs_resources 1 (let z = k.srs_resources_most in omega (arith, z))
    (let z = k.srs_resources_most in omega (arith, z)) in
    let p = up_ports_within f in let pl = p.0 in let pm = p.1 in
    let q = k.csi_request in let g = k.cbg_most in
    let u = set_le f.ptrs 2 in let v = set_le f.beta 2 in let w = set_le (not f.transform) 1 in
    record {
      list = record {
        few = omega arith;
        begins = (refl, refl);
        apart = refl;
        fdra = or_left (nat_lt 0 (fdra_width bwp f.allocation f.rbg_config)) false
            (lt-ltb 0 (fdra_width bwp f.allocation f.rbg_config) some);
        narrow = search rules;
      };
      some = some;
      least = omega (arith, fl, cl, pl);
      most = omega (arith, fm, a, t, b, cm, d, s, pm, q, g, u, v, w);
    }

-- format 1_1, in the same way
pub format_11 : (codebook : Codebook) (bwp : Bwp) (f : DownlinkFields) → IsLegalBwp bwp → IsLegalDownlink f
    → IsFormat 84 (rows_11 codebook bwp f)
format_11 codebook bwp f h k =
    let fdra = fdra_width_is bwp f.allocation f.rbg_config h in
    let fl = fdra.least in let fm = fdra.most in
    let some : 0 < fdra_width bwp f.allocation f.rbg_config = omega (arith, fl) in
    let a = bwp_le f.bwps in
    let t = k.tdra in
    let b = set_le (f.interleaved && has_type1 f.allocation) 1 in
    let c = set_le f.bundling 1 in
    let r = k.rate_match in
    let z = bits_for_le (f.zp_sets + 1) 2 (let z = k.zp_sets in omega (arith, z)) (let z = k.zp_sets in omega (arith, z)) in
    let m = set_le (nat_eq f.codewords 2) 5 in
    let n = set_le (nat_eq f.codewords 2) 1 in
    let o = set_le (nat_eq f.codewords 2) 2 in
    let d = down_index_le codebook in
    let e = k.timing in
    let p = (down_ports_within f).1 in
    let q = set_le f.tci 3 in
    let g = k.cbg_most in
    let u = set_le f.flush 1 in
    record {
      list = record {
        few = omega arith;
        begins = (refl, refl);
        apart = refl;
        fdra = or_left (nat_lt 0 (fdra_width bwp f.allocation f.rbg_config)) false
            (lt-ltb 0 (fdra_width bwp f.allocation f.rbg_config) some);
        narrow = search rules;
      };
      some = some;
      least = omega (arith, fl);
      most = omega (arith, fm, a, t, b, c, r, z, m, n, o, d, e, p, q, g, u);
    }
