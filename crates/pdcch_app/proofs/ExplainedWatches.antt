-- Every watch of a handset is explained, with the answer that the stages of hearing tell.
use Rattle.std.proofs.Common.{◌≡◌, ℕ, ◌<◌, List, Option, Some, Ok, length, refl, sym, ap, ◌∙◌}
use Rattle.rrc_settings.specs.declared.settings.RawCell.{RawCell}
use Rattle.settings_json.specs.First.{raw_in}
use Rattle.settings_json.proofs.NoFault.{legal_read}
use Rattle.slot_grid.specs.Grid.{GridValue}
use Rattle.table_files.specs.declared.tables.Tables.{Tables}
use Rattle.table_files.proofs.ReadTables.{read_is_table}
use Rattle.monitor_plan.specs.declared.watch.Watch.{Watch}
use Rattle.monitor_plan.specs.Planned.{planned}
use Rattle.monitor_plan.specs.Watch.{no_watch, watch_at}
use Rattle.monitor_plan.proofs.PlannedWatches.{planned-made}
use Rattle.dci_codec.specs.Answer.{answer_at}
use Rattle.dci_codec.proofs.OneAnswer.{tells_the_answer}
use Rattle.run_steps.specs.Outcome.{ended}
use Rattle.pdcch_app.specs.declared.arguments.Flag.TheVariants as flags
use Rattle.pdcch_app.specs.declared.words.Command.TheVariants.{Explain}
use Rattle.pdcch_app.specs.Arguments.{number_of}
use Rattle.pdcch_app.specs.Explaining.{explained, explained_by, printed, watch_text}
use Rattle.pdcch_app.specs.Promises.{ExplainsEveryWatch}
use Rattle.pdcch_app.specs.Reporting.{handset_named}
use Rattle.pdcch_app.specs.Words.{handset, value, watch}
use Rattle.pdcch_app.proofs.Asked.{asks_both}
use Rattle.pdcch_app.proofs.Exceeding.{place_within}
use Rattle.pdcch_app.proofs.Explainings.{among_is, explained_is}
use Rattle.pdcch_app.proofs.InOrder.{grid_given}

-- what is explained of a watch of the handset with a name
explained-watch : (cell : RawCell) (tables : Tables) (grid : GridValue) (name word : List ℕ) (place : ℕ) (watches : List Watch)
    → handset_named cell name ≡ Some place → planned cell place grid.frame grid.slot ≡ Ok watches
    → number_of word < length watches
    → explained cell tables grid name word ≡ printed (watch_text tables grid (watch_at watches (number_of word)) (number_of word))
explained-watch cell tables grid name word place watches n p l =
    explained_is cell tables grid name word place n ∙ ap (explained_by cell tables grid word place) p
    ∙ among_is tables grid word watches l

-- a value that the words give is the one that they give
same_value : (given found : List ℕ) (value : Option (List ℕ)) → value ≡ Some given → value ≡ Some found → found ≡ given
same_value given found value e f = let both_are = sym f ∙ e in cc

-- `explain` prints every watch of a handset of the cell
pub explains_every_watch : ExplainsEveryWatch
explains_every_watch words settings reliability input_order grid tables points name word place watches w hs hr hi hg s r i g
    mu blocks named asked n p l =
    let cell = raw_in settings in
    let number = number_of word in
    let asks = asks_both words w in
    let its_name : value words flags.Handset
    ≡ name = same_value name (value words flags.Handset) (handset words) named asks.handset_is in
    let its_word : value words flags.Watch ≡ word = same_value word (value words flags.Watch) (watch words) asked asks.watch_is in
    let made = planned-made cell place points.frame points.slot watches (legal_read settings s)
    (place_within cell name place n) p in
    let looked_at = watch_at watches number in
    record {
      is =
          grid_given words settings reliability input_order grid Explain cell tables points w refl hs hr hi hg
          (record { sound = s; is = refl }) r i (record { is = g; mu = mu; blocks = blocks })
          ∙ ap (λ (text : List ℕ). ended (explained cell tables points text (value words flags.Watch))) its_name
          ∙ ap (λ (text : List ℕ). ended (explained cell tables points name text)) its_word
          ∙ ap ended (explained-watch cell tables points name word place watches n p l);
      told =
          (tells_the_answer tables points looked_at number (answer_at tables points looked_at number)
          (read_is_table 1024 reliability tables.reliability r, read_is_table 164 input_order tables.input_order i)
          (made.plan.sound number no_watch l)).0 refl;
    }
