-- The slot of a list of grants in which no fault is found, and how many grants it has.
use Rattle.std.proofs.Common.{◌≡◌, ℕ, ◌*◌, ◌^◌, ◌<◌, ◌≤◌, List, None, Some, length, bytes_eq, refl, arith}
use Rattle.std.proofs.lemmas.Bool.{ltb-true}
use Rattle.std.proofs.lemmas.List.{length-map}
use Rattle.rrc_settings.specs.declared.place.Reason.TheVariants.{NotJson}
use Rattle.std.specs.List.{find}
use Rattle.serde_json.specs.Data.{Data}
use Rattle.json_form.specs.Kinds.{Entry, elements_in, entry, inner_at, judge_list as judge_list_of, judge_number, must, number_in}
use Rattle.json_form.proofs.NoFault.{entry_none, list_none, number_none, required_none, spelled_where_none}
use Rattle.grant_file.specs.declared.grants.GrantList.{GrantList}
use Rattle.grant_file.specs.declared.place.GrantFault.{GrantFault}
use Rattle.grant_file.specs.declared.place.GrantKey.{GrantKey}
use Rattle.grant_file.specs.declared.place.GrantKey.TheVariants as keys
use Rattle.grant_file.specs.declared.place.GrantPlace.{GrantPlace}
use Rattle.grant_file.specs.Faults.{fault_at, names, place, whole_at}
use Rattle.grant_file.specs.Keys.{word_of}
use Rattle.grant_file.specs.First.{first_fault_in, grants_in}
use Rattle.grant_file.specs.Shapes.{is_below, judge_grant, judge_list, list_rows, slots_of_frame}
use Rattle.grant_file.specs.Values.{grant_value, list_value}

-- a list of at most 4,096 grants, of a slot that a frame has where it has as many as the numerology says
pub record IsSlotList (mu : ℕ) (list : GrantList) : Type 0 where
  pub frame_most : list.frame ≤ 1023
  pub slot_below : list.slot < 10 * 2 ^ mu
  pub few : length list.grants ≤ 4096

-- a number below another at a key
number_below : (bound : ℕ) (key : GrantKey) (d : Data)
    → entry names (whole_at None) d (must key (judge_number names (is_below bound))) ≡ None → number_in names key d < bound
number_below bound key d e =
    let value = inner_at names key d in
    let judged = required_none names (whole_at None) key (judge_number names (is_below bound)) d e in
    ltb-true _ bound (number_none names (is_below bound) (place None key) value judged)

-- a list without a fault has none at a key that is found among its rows
row_none : (mu : ℕ) (row : Entry GrantKey GrantPlace GrantFault) (d : Data)
    → find (λ (r : Entry GrantKey GrantPlace GrantFault). bytes_eq (word_of r.key) (word_of row.key)) (list_rows mu) ≡ Some row
    → judge_list mu d ≡ None → entry names (whole_at None) d row ≡ None
unfolding judge_list
row_none mu row d is e = entry_none names (list_rows mu) row (whole_at None) d is e

-- the list that a value without a fault spells
value_is_slot_list : (mu : ℕ) (d : Data) → judge_list mu d ≡ None → IsSlotList mu (list_value d)
unfolding list_value
value_is_slot_list mu d e =
    let below = λ (bound : ℕ). judge_number names (is_below bound) in
    let grants_judge = judge_list_of names 0 4096 judge_grant in
    let frame = row_none mu (must keys.Frame (below 1024)) d refl e in
    let slot = row_none mu (must keys.Slot (below (slots_of_frame mu))) d refl e in
    let at_grants = row_none mu (must keys.Grants grants_judge) d refl e in
    let grants = required_none names (whole_at None) keys.Grants grants_judge d at_grants in
    let size = list_none names 0 4096 judge_grant (place None keys.Grants) (inner_at names keys.Grants d) grants in
    record {
      frame_most = omega (arith, number_below 1024 keys.Frame d frame);
      slot_below = number_below (slots_of_frame mu) keys.Slot d slot;
      few = omega (arith, size.1, length-map (elements_in names keys.Grants d) grant_value);
    }

-- the list that bytes without a fault spell
pub slot_read : (mu : ℕ) (bytes : List ℕ) → first_fault_in mu bytes ≡ None → IsSlotList mu (grants_in bytes)
slot_read mu bytes e =
    let no_json = fault_at (whole_at None) NotJson in
    spelled_where_none no_json (judge_list mu) list_value (IsSlotList mu) (value_is_slot_list mu) bytes e
