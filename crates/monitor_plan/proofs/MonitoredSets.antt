-- The watches of sets, each kept once, and of their candidates.
use Rattle.std.proofs.Common.{◌≡◌, ℕ, ◌+◌, ◌*◌, ◌<◌, ◌≤◌, true, List, [], ◌∷◌, ◌++◌, Option, Some, All, length, map, take, get_or}
use Rattle.std.proofs.Common.{slice_get, length-append, rules, refl, sym, ◌∙◌, ap, subst, arith}
use Rattle.std.specs.List.{flat_map}
use Rattle.std.proofs.lemmas.List.{take_all, take_more, append-nil, map-append, length-map}
use Rattle.std.proofs.lemmas.List.Elements.{All-push, All-append, All-map, All-nil}
use Rattle.std.proofs.lemmas.Grind.{common_steps, flat_map-append}
use Rattle.std.proofs.lemmas.List.Folds.{flat_map-map}
use Rattle.std.proofs.lemmas.Option.{slice_get-get_or}
use Rattle.rrc_settings.specs.declared.settings.RawCell.{RawCell}
use Rattle.rrc_settings.specs.declared.settings.Handset.{Handset}
use Rattle.rrc_settings.specs.HandsetsOfCell.{set_at}
use Rattle.rrc_settings.specs.AggregationLevels.{is_level}
use Rattle.dci_fields.specs.declared.sizes.Sizes.{Sizes}
use Rattle.coreset_map.specs.ControlResources.{cce_count}
use Rattle.monitor_budget.specs.declared.candidates.Candidate.{Candidate}
use Rattle.monitor_budget.specs.SetCandidates.{IsPlaced}
use Rattle.monitor_budget.specs.Spaces.{IsSpace}
use Rattle.monitor_budget.specs.Counts.{candidates_of}
use Rattle.monitor_plan.specs.declared.monitored.MonitoredSet.{MonitoredSet}
use Rattle.monitor_plan.specs.declared.monitored.Monitored.{Monitored}
use Rattle.monitor_plan.specs.declared.watch.Watch.{Watch}
use Rattle.monitor_plan.specs.Watches.{set_watches, watches_of}
use Rattle.monitor_plan.specs.Monitored.{set_kept, sets_kept, candidates_in, monitored_at, watch_kept, watch_where, watch_monitored}
use Rattle.monitor_plan.specs.Monitored.{watches_monitored, watches_in_sets, IsMonitored}
use Rattle.monitor_plan.proofs.WatchParts.{watch_is_in}

-- sets are kept that stand at some places
pub record AreKept (cell : RawCell) (h : Handset) (sizes : Sizes) (places : List ℕ) (found : List MonitoredSet) : Type 0 where
  pub sets : found ≡ sets_kept cell h sizes places
  pub legal : All (λ (s : MonitoredSet). IsSpace s.space) found

-- the set at one place more
pub kept_more : {cell : RawCell} {h : Handset} {sizes : Sizes} (places : List ℕ) (i : ℕ) (now next : List MonitoredSet)
    (s : MonitoredSet) → i < length places → AreKept cell h sizes (take i places) now → next ≡ now ++ s ∷ []
    → s ≡ set_kept cell h sizes (set_at h (get_or places i 0)) → IsSpace s.space
    → AreKept cell h sizes (take (i + 1) places) next
kept_more {cell} {h} {sizes} places i now next s l before e is legal =
    let each : ℕ → MonitoredSet = λ p. set_kept cell h sizes (set_at h p) in
    let IsLegalSet : MonitoredSet → Type 0 = λ x. IsSpace x.space in
    record {
      sets =
          e ∙ ap (λ (x : MonitoredSet). now ++ x ∷ []) is ∙ ap (λ (xs : List MonitoredSet). xs ++ each (get_or places i 0) ∷ [])
          before.sets
          ∙ sym (map-append each (take i places) (get_or places i 0 ∷ []))
          ∙ ap (map each) (sym (take_more places i 0 l));
      legal = subst (All IsLegalSet) (sym e) (All-push IsLegalSet now s before.legal legal);
    }

-- the watches of the sets that are kept are those of the sets at their places
pub watches_kept : (cell : RawCell) (h : Handset) (sizes : Sizes) (places : List ℕ) (sets : List MonitoredSet)
    → sets ≡ sets_kept cell h sizes places → watches_in_sets sizes sets ≡ watches_of cell h sizes places
unfolding watches_in_sets watches_of set_watches
watches_kept cell h sizes places sets e =
    let of_set : MonitoredSet → List Watch = λ s. map (watch_kept s) (candidates_in sizes s) in
    let alike : (place : ℕ) → of_set (set_kept cell h sizes (set_at h place)) ≡ set_watches cell h sizes (set_at h place) =
    λ place. let s = set_at h place in
    ap (λ (f : Candidate → Watch). map f (candidates_of cell h sizes s)) (λ i c. watch_is_in cell h sizes s c i) in
    ap (flat_map of_set) e ∙ flat_map-map of_set (λ (place : ℕ). set_kept cell h sizes (set_at h place)) places
    ∙ ap (λ (f : ℕ → List Watch). flat_map f places) (λ i place. alike place i)

-- the candidates of the first sets
pub record AreMonitored (sizes : Sizes) (sets : List MonitoredSet) (n : ℕ) (candidates : List Monitored) : Type 0 where
  pub watches : watches_monitored sets candidates ≡ watches_in_sets sizes (take n sets)
  pub monitored : All (IsMonitored sets) candidates
  pub few : length candidates ≤ 1120 * n

-- no candidates of no sets
pub none_monitored : (sizes : Sizes) (sets : List MonitoredSet) (candidates : List Monitored) → candidates ≡ []
    → AreMonitored sizes sets 0 candidates
unfolding watches_in_sets
none_monitored sizes sets candidates e =
    subst (AreMonitored sizes sets 0) (sym e)
    (record { watches = refl; monitored = All-nil (IsMonitored sets); few = omega arith })

some_once : {A : Type 0} (a b : A) → ◌≡◌ {A = Option A} (Some a) (Some b) → a ≡ b
some_once a b e = cc

most_level : (n : ℕ) → is_level n ≡ true → n ≤ 16
most_level n h = search (rules, common_steps)

-- the candidates of one set more
module _ (sizes : Sizes) (sets : List MonitoredSet) (n : ℕ) (s : MonitoredSet) (there : n < length sets)
    (is : s ≡ get_or sets n s) where
  found : slice_get sets n ≡ Some s
  found = slice_get-get_or sets n s there ∙ ap (λ (x : MonitoredSet). Some x) (sym is)

  placed_monitored : (c : Candidate) → IsPlaced (cce_count s.space.resources) s.space.set c
      → IsMonitored sets (monitored_at n c)
  placed_monitored c p = record {
    set = there;
    level = most_level c.level p.level;
    cces = λ t e. subst (λ (x : MonitoredSet). c.start + c.level ≤ cce_count x.space.resources)
        (some_once s t (sym found ∙ e)) p.within;
  }

  watches_here : (cs : List Candidate) → watches_monitored sets (map (monitored_at n) cs) ≡ map (watch_kept s) cs
  watches_here [] = refl
  watches_here (c ∷ cs) =
      ap (λ (o : Option MonitoredSet). watch_where o c ∷ watches_monitored sets (map (monitored_at n) cs)) found
      ∙ ap (λ (ws : List Watch). watch_kept s c ∷ ws) (watches_here cs)

  pub monitored_more : (now next : List Monitored) → AreMonitored sizes sets n now
      → next ≡ now ++ map (monitored_at n) (candidates_in sizes s)
      → All (IsPlaced (cce_count s.space.resources) s.space.set) (candidates_in sizes s)
      → length (candidates_in sizes s) ≤ 1120 → AreMonitored sizes sets (n + 1) next
  unfolding watches_in_sets
  monitored_more now next before e placed short =
      let cs = candidates_in sizes s in
      let more = map (monitored_at n) cs in
      let of_set : MonitoredSet → List Watch = λ x. map (watch_kept x) (candidates_in sizes x) in
      record {
        watches =
            ap (watches_monitored sets) e ∙ map-append (watch_monitored sets) now more
            ∙ ap (λ (ws : List Watch). ws ++ watches_monitored sets more) before.watches
            ∙ ap (λ (ws : List Watch). flat_map of_set (take n sets) ++ ws) (watches_here cs ∙ sym (append-nil (of_set s)))
            ∙ ap (λ (x : MonitoredSet). flat_map of_set (take n sets) ++ flat_map of_set (x ∷ [])) is
            ∙ sym (flat_map-append of_set (take n sets) (get_or sets n s ∷ []))
            ∙ ap (flat_map of_set) (sym (take_more sets n s there));
        monitored =
            subst (All (IsMonitored sets)) (sym e)
            (All-append (IsMonitored sets) now more before.monitored
            (All-map (IsMonitored sets) (monitored_at n) cs
            (λ k d l. placed_monitored (get_or cs k d) (placed k d l))));
        few = omega (arith, before.few, short, ap length e, length-append now more, length-map cs (monitored_at n));
      }

-- the candidates of all sets
pub all_monitored : (sizes : Sizes) (sets : List MonitoredSet) (n : ℕ) (candidates : List Monitored) → length sets ≤ n
    → AreMonitored sizes sets n candidates
    → watches_monitored sets candidates ≡ watches_in_sets sizes sets
all_monitored sizes sets n candidates l all =
    all.watches ∙ ap (watches_in_sets sizes) (take_all n sets l)
