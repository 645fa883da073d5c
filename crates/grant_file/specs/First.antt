-- The first fault of a list of grants, and the grants where there is none.
use Rattle.std.specs.Prelude.{ℕ, List, None}
use Rattle.rrc_settings.specs.declared.place.Reason.TheVariants.{NotJson}
use Rattle.json_form.specs.Texts.{found_in, spelled_in}
use Rattle.grant_file.specs.declared.grants.GrantList.{GrantList}
use Rattle.grant_file.specs.Faults.{Finding, fault_at, whole_at}
use Rattle.grant_file.specs.Shapes.{judge_list}
use Rattle.grant_file.specs.Values.{list_value}

-- the first fault of the bytes, where a frame has as many slots as the numerology says
abbrev pub first_fault_in : ℕ → List ℕ → Finding
first_fault_in mu bytes = found_in (fault_at (whole_at None) NotJson) (judge_list mu) bytes

-- the grants that the bytes spell; those of null where they are no JSON
abbrev pub grants_in : List ℕ → GrantList
grants_in bytes = spelled_in list_value bytes
