-- What a search leaves.
use Rattle.std.specs.Prelude.{◌≡◌, List, ⊤}
use Rattle.std.specs.Borrow.{Fml, MutBor, Bor, follows_so}
use mathlib.Core.Option.{none}
use Rattle.dci_codec.specs.declared.heard.Heard.{Heard}
use Rattle.blind_search.specs.Searcher.{SearcherValue}
use Rattle.blind_search.specs.contracts.searcher.Searcher.{the_row}

-- the searcher has its plan as before, and keeps the report that was given
abbrev pub KeepsReport : MutBor SearcherValue → Bor (List Heard) → Fml
KeepsReport searcher report =
    follows_so the_row the_row searcher.ghost_name none (λ _ _. ⊤)
    (λ v. (v.plan ≡ searcher.now.plan) × (v.found ≡ report.now))
