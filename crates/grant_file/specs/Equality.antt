-- `==` of lists of grants and of places in them holds exactly of equal values.
use Rattle.std.specs.Prelude.{◌≡◌, ℕ, Bool, ◌&&◌, List, Option, Decides}
use Rattle.std.specs.Cmp.{unsigned_Decides}
use Rattle.std.proofs.Common.{ap, ◌∙◌, rules}
use Rattle.std.proofs.lemmas.Bool.Decides.{Decides-and}
use Rattle.std.proofs.lemmas.Grind.{common_steps}
use Rattle.std.proofs.lemmas.Slice.Eq.{bytes_eq-Decides}
use Rattle.dci_fields.specs.declared.fault.Given.{Given}
use Rattle.dci_fields.specs.declared.formats.Format.{Format}
use Rattle.dci_fields.specs.Equality.{decides_format, decides_given}
use Rattle.rrc_settings.specs.Equality.{decides_list, decides_option}
use Rattle.grant_file.specs.declared.grants.Grant.{Grant}
use Rattle.grant_file.specs.declared.grants.GrantList.{GrantList}
use Rattle.grant_file.specs.declared.place.GrantKey.{GrantKey}
use Rattle.grant_file.specs.declared.place.GrantPlace.{GrantPlace}
use Rattle.grant_file.specs.contracts.grants.GrantPartialEq.TheImpl as a_grant
use Rattle.grant_file.specs.contracts.grants.GrantListPartialEq.TheImpl as grant_list
use Rattle.grant_file.specs.contracts.place.GrantKeyPartialEq.TheImpl as grant_key
use Rattle.grant_file.specs.contracts.place.GrantPlacePartialEq.TheImpl as grant_place

-- what is the same as what a test decides
decides_by : {P Q : Type 0} {r : Bool} → Decides r P → (P → Q) → (Q → P) → Decides r Q
decides_by d there back = (λ h. there (d.0 h), λ q. d.1 (back q))

-- keys
pub decides_key : (a b : GrantKey) → Decides (grant_key.ghosts.eq a b) (a ≡ b)
decides_key a b = search (rules, common_steps)

-- places
pub decides_place : (a b : GrantPlace) → Decides (grant_place.ghosts.eq a b) (a ≡ b)
decides_place a b =
    let g = decides_option unsigned_Decides a.grant b.grant in
    let k = decides_key a.key b.key in
    search (rules, common_steps)

-- two values as one
abbrev pair : {A B : Type 0} → A → B → A × B
pair a x = (a, x)

-- pairs, where `==` of their parts is exact
decides_pair : {A B : Type 0} {r s : Bool} {a b : A} {x y : B} → Decides r (a ≡ b) → Decides s (x ≡ y)
    → Decides (r && s) (pair a x ≡ pair b y)
decides_pair {A = A} {B = B} {a = a} {b = b} {x = x} {y = y} d e =
    decides_by (Decides-and _ _ d e)
    (λ p. ap (λ (k : A). pair k x) p.0 ∙ ap (λ (k : B). pair b k) p.1)
    (λ q. (ap (λ (t : A × B). t.0) q, ap (λ (t : A × B). t.1) q))

-- the fields of grants, one in the other
abbrev GrantFields : Type 0
GrantFields =
    List ℕ × (ℕ × (ℕ × (Option ℕ × (Option ℕ × (Format × (List Given × List (List ℕ)))))))

-- a grant by its fields
abbrev fields_of : Grant → GrantFields
fields_of g = (g.handset, (g.set, (g.level, (g.candidate, (g.symbol, (g.format, (g.given, g.words)))))))

-- the grant with these fields
abbrev grant_with : GrantFields → Grant
grant_with (handset, (set, (level, (candidate, (symbol, (format, (given, words))))))) = record {
  handset = handset;
  set = set;
  level = level;
  candidate = candidate;
  symbol = symbol;
  format = format;
  given = given;
  words = words;
}

-- grants
pub decides_grant : (a b : Grant) → Decides (a_grant.ghosts.eq a b) (a ≡ b)
decides_grant a b =
    decides_by
    (decides_pair (bytes_eq-Decides a.handset b.handset)
    (decides_pair (unsigned_Decides a.set b.set)
    (decides_pair (unsigned_Decides a.level b.level)
    (decides_pair (decides_option unsigned_Decides a.candidate b.candidate)
    (decides_pair (decides_option unsigned_Decides a.symbol b.symbol)
    (decides_pair (decides_format a.format b.format)
    (decides_pair (decides_list decides_given a.given b.given)
    (decides_list bytes_eq-Decides a.words b.words))))))))
    (ap grant_with)
    (ap fields_of)

-- lists of grants
pub decides_list_of_grants : (a b : GrantList) → Decides (grant_list.ghosts.eq a b) (a ≡ b)
decides_list_of_grants a b =
    let frame = unsigned_Decides a.frame b.frame in
    let slot = unsigned_Decides a.slot b.slot in
    let grants = decides_list decides_grant a.grants b.grants in
    search (rules, common_steps)
