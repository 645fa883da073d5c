-- The searches of the load: each job can search its grid, and what the jobs of a slot find are the totals of the slot.
use Rattle.std.proofs.Common.{◌≡◌, ℕ, ◌+◌, ◌-◌, ◌*◌, ◌/◌, ◌%◌, ◌<◌, ◌≤◌, List, [], ◌∷◌, ◌++◌}
use Rattle.std.proofs.Common.{All, map, take, drop, length, get_or, refl, ap, sym, subst, ◌∙◌, arith, slice_set}
use Rattle.std.specs.List.{range_with_len, slice_range, sum_by}
use Rattle.std.proofs.lemmas.List.{append-nil, drop_all, take_all}
use Rattle.std.proofs.lemmas.List.Edits.{map_over_more}
use Rattle.std.proofs.lemmas.List.Elements.{All-map}
use Rattle.std.proofs.lemmas.List.FromFn.{length-map-range_with_len, length-range_with_len, get_or-map-range_with_len}
use Rattle.std.proofs.lemmas.List.FromFn.{get_or-range_with_len}
use Rattle.slot_grid.specs.Grid.{GridValue}
use Rattle.slot_grid.specs.Image.{blank_grid}
use Rattle.table_files.specs.declared.tables.Tables.{Tables}
use Rattle.monitor_plan.specs.Watch.{IsInside}
use Rattle.monitor_plan.proofs.Plans.{IsMade}
use Rattle.monitor_plan.proofs.PlannedWatches.{planned-made}
use Rattle.dci_codec.specs.declared.codes.Codes.{Codes}
use Rattle.dci_codec.specs.KnownCodes.{AreOf}
use Rattle.blind_search.specs.Report.{heard_in, report_of}
use Rattle.blind_search.proofs.Entries.{length-given}
use Rattle.par_sweep.specs.declared.jobs.Job.{Job}
use Rattle.par_sweep.specs.declared.slots.Counts.{Counts}
use Rattle.par_sweep.specs.LoadCell.{load_cell}
use Rattle.par_sweep.specs.Jobs.{grid_at, job_searched, CanSearch}
use Rattle.par_sweep.specs.Slots.{slot_counts, slot_grid, slot_watches}
use Rattle.par_sweep.specs.Sweep.{found_in, heard_count, job_at, searched_at, slot_totals, HasFew}
use Rattle.par_sweep.proofs.LegalLoad.{count_of_handsets, legal}
use Rattle.par_sweep.proofs.Plans.{plans_every_slot}
use Rattle.par_sweep.proofs.Ranges.{made_more, made_same, part_made, sums_same}
use Rattle.par_sweep.proofs.SlotDesks.{blocks_of}

-- the first jobs of a list are searched and the others as they were, and the codes that are kept are those of the tables
pub record AreSearchedBelow (tables : Tables) (grids : List GridValue) (first : List Job) (place : ℕ) (jobs : List Job) (codes : Codes)
    : Type 0 where
  pub searched : jobs ≡ map (job_searched tables grids) (take place first) ++ drop place first
  pub kept : AreOf tables codes

-- one job more is searched
pub searched_more : (tables : Tables) (grids : List GridValue) (first : List Job) (place : ℕ) {now : List Job}
    {job searched : Job}
    → place < length first
    → now ≡ map (job_searched tables grids) (take place first) ++ drop place first → job ≡ get_or now place job
    → searched ≡ job_searched tables grids (get_or now place job)
    → slice_set now place searched ≡ map (job_searched tables grids) (take (place + 1) first) ++ drop (place + 1) first
searched_more tables grids first place {now} {job} {searched} within so_far there is =
    ap (λ (j : Job). slice_set now place j) (is ∙ ap (job_searched tables grids) (sym there))
    ∙ map_over_more (job_searched tables grids) first now place job within so_far there

-- the plan of a job's handset
plan_of : (number : ℕ) → IsMade load_cell (number % 32) (number / 32 / 10) (number / 32 % 10)
    (slot_watches (number / 32) (number % 32))
plan_of number =
    planned-made load_cell (number % 32) (number / 32 / 10) (number / 32 % 10) (slot_watches (number / 32) (number % 32)) legal
    (omega (arith, count_of_handsets)) ((plans_every_slot (number / 32)).watches (number % 32) (omega arith))

blocks_of_cell : load_cell.blocks ≡ 273
unfolding load_cell
blocks_of_cell = refl

-- the grid of a job
grid_there : (tables : Tables) (slots t : ℕ) → t < slots
    → grid_at (map (slot_grid tables) (range_with_len 0 slots)) t ≡ slot_grid tables t
grid_there tables slots t h = get_or-map-range_with_len (slot_grid tables) 0 slots t t (blank_grid 0 0 0 0) h (omega arith)

-- each job can search its grid
can_search : (tables : Tables) (slots number : ℕ) → slots ≤ 200 → number < 32 * slots
    → CanSearch (map (slot_grid tables) (range_with_len 0 slots)) (job_at number)
can_search tables slots number few h =
    let t = number / 32 in
    let within : t < slots = omega (arith, h) in
    let blocks : load_cell.blocks ≡ (grid_at (map (slot_grid tables) (range_with_len 0 slots)) t).blocks =
    blocks_of_cell ∙ sym (ap (λ (g : GridValue). g.blocks) (grid_there tables slots t within)
    ∙ blocks_of tables t (omega (arith, within, few))) in
    record {
      place = omega (arith, within, length-map-range_with_len (slot_grid tables) 0 slots);
      inside = subst (λ (n : ℕ). All (IsInside n) (slot_watches t (number % 32))) blocks (plan_of number).inside;
    }

-- what holds of each number holds of each in order
all_numbers : (P : ℕ → Type 0) (n : ℕ) → ((k : ℕ) → k < n → P k) → All P (range_with_len 0 n)
all_numbers P n h = λ i d l.
    let within : i < n = omega (arith, l, length-range_with_len 0 n) in
    let here : get_or (range_with_len 0 n) i d ≡ i = get_or-range_with_len 0 n i d within ∙ omega arith in
    subst P (sym here) (h i within)

-- and each of some jobs can
pub all_can_search : (tables : Tables) (slots : ℕ) {grids : List GridValue} {jobs : List Job} → slots ≤ 200
    → grids ≡ map (slot_grid tables) (range_with_len 0 slots)
    → jobs ≡ map job_at (range_with_len 0 (32 * slots)) → All (CanSearch grids) jobs
all_can_search tables slots {grids} {jobs} few g j =
    let made = map (slot_grid tables) (range_with_len 0 slots) in
    let all : All (CanSearch made) (map job_at (range_with_len 0 (32 * slots))) =
    All-map (CanSearch made) job_at (range_with_len 0 (32 * slots))
    (all_numbers (λ k. CanSearch made (job_at k)) (32 * slots) (λ k l. can_search tables slots k few l)) in
    subst (λ (gs : List GridValue). All (CanSearch gs) jobs) (sym g)
    (subst (λ (js : List Job). All (CanSearch made) js) (sym j) all)

map_twice : (f : Job → Job) (g : ℕ → Job) (xs : List ℕ) → map f (map g xs) ≡ map (λ k. f (g k)) xs
map_twice f g [] = refl
map_twice f g (x ∷ xs) = ap (λ ys. f (g x) ∷ ys) (map_twice f g xs)

-- the jobs after their search
pub all_searched : (tables : Tables) (slots : ℕ) {grids : List GridValue} {old new : List Job}
    → grids ≡ map (slot_grid tables) (range_with_len 0 slots)
    → old ≡ map job_at (range_with_len 0 (32 * slots)) → new ≡ map (job_searched tables grids) old
    → new ≡ map (searched_at tables) (range_with_len 0 (32 * slots))
all_searched tables slots {grids} {old} {new} g j s =
    let made = map (slot_grid tables) (range_with_len 0 slots) in
    let numbers = range_with_len 0 (32 * slots) in
    s ∙ ap (λ (gs : List GridValue). map (job_searched tables gs) old) g ∙ ap (map (job_searched tables made)) j
    ∙ map_twice (job_searched tables made) job_at numbers
    ∙ made_same (λ k. job_searched tables made (job_at k)) (searched_at tables) 0 0 (32 * slots) (λ i l.
    let t = (0 + i) / 32 in
    let plan = slot_watches t ((0 + i) % 32) in
    ap (λ (x : GridValue). record { grid = t; searcher = record { plan = plan; found = report_of tables x plan } })
    (grid_there tables slots t (omega (arith, l))))

-- a job finds few
few_found : (tables : Tables) (number : ℕ) → HasFew (searched_at tables number)
unfolding report_of
few_found tables number =
    let t = number / 32 in
    let plan = slot_watches t (number % 32) in
    omega (arith, (plan_of number).plan.few, length-given (heard_in tables (slot_grid tables t) plan) (length plan) 0)

-- the jobs of a slot
jobs_there : (tables : Tables) (slots t : ℕ) (jobs : List Job) → t < slots
    → jobs ≡ map (searched_at tables) (range_with_len 0 (32 * slots))
    → slice_range jobs (t * 32) ((t + 1) * 32) ≡ map (searched_at tables) (range_with_len (t * 32) 32)
jobs_there tables slots t jobs h j =
    let length_is : (t + 1) * 32 - t * 32 ≡ 32 = omega arith in
    ap (λ (js : List Job). slice_range js (t * 32) ((t + 1) * 32)) j
    ∙ part_made (searched_at tables) (32 * slots) (t * 32) ((t + 1) * 32) (omega arith) (omega (arith, h))
    ∙ ap (λ (n : ℕ). map (searched_at tables) (range_with_len (t * 32) n)) length_is

-- each of them has found few
pub all_few : (tables : Tables) (slots t : ℕ) {jobs : List Job} → t < slots
    → jobs ≡ map (searched_at tables) (range_with_len 0 (32 * slots))
    → All HasFew (slice_range jobs (t * 32) ((t + 1) * 32))
all_few tables slots t {jobs} h j =
    subst (λ (js : List Job). All HasFew js) (sym (jobs_there tables slots t jobs h j))
    (All-map HasFew (searched_at tables) (range_with_len (t * 32) 32)
    (λ i d l. few_found tables (get_or (range_with_len (t * 32) 32) i d)))

-- what they find
pub all_found : (tables : Tables) (slots t : ℕ) {jobs : List Job} → t < slots
    → jobs ≡ map (searched_at tables) (range_with_len 0 (32 * slots))
    → sum_by found_in (slice_range jobs (t * 32) ((t + 1) * 32)) ≡ sum_by (heard_count tables t) (range_with_len 0 32)
unfolding heard_count
all_found tables slots t {jobs} h j =
    ap (sum_by found_in) (jobs_there tables slots t jobs h j)
    ∙ sums_same found_in (searched_at tables) (heard_count tables t) (t * 32) 0 32 (λ i l.
    let slot : (t * 32 + i) / 32 ≡ t = omega (arith, l) in
    let handset : (t * 32 + i) % 32 ≡ 0 + i = omega (arith, l) in
    ap (λ (s : ℕ). length (report_of tables (slot_grid tables s) (slot_watches s ((t * 32 + i) % 32)))) slot
    ∙ ap (λ (k : ℕ). length (report_of tables (slot_grid tables t) (slot_watches t k))) handset)

-- the totals of a slot by its counts and by what was found
pub totals_there : (tables : Tables) (t : ℕ) {heard : ℕ} {counts : Counts} → counts ≡ slot_counts t
    → heard ≡ sum_by (heard_count tables t) (range_with_len 0 32)
    → record { frame = t / 10; slot = t % 10; placed = counts.placed; overlapped = counts.overlapped; heard = heard }
    ≡ slot_totals tables t
unfolding slot_totals
totals_there tables t {heard} {counts} c h =
    ap (λ (k : Counts). record { frame = t / 10; slot = t % 10; placed = k.placed; overlapped = k.overlapped; heard = heard }) c
    ∙ ap (λ (n : ℕ). record {
      frame = t / 10;
      slot = t % 10;
      placed = (slot_counts t).placed;
      overlapped =
          (slot_counts t).overlapped;
      heard = n;
    }) h

-- the grids of the first slots, and what was counted in each
pub record AreSwept (tables : Tables) (n : ℕ) (grids : List GridValue) (counts : List Counts) : Type 0 where
  pub grids_are : grids ≡ map (slot_grid tables) (range_with_len 0 n)
  pub counts_are : counts ≡ map slot_counts (range_with_len 0 n)

-- and the codes that are kept are by the tables
pub record AreSweptWith (codes : Codes) (tables : Tables) (n : ℕ) (grids : List GridValue) (counts : List Counts) : Type 0 where
  pub swept : AreSwept tables n grids counts
  pub kept : AreOf tables codes

-- one slot more
pub swept_more : {tables : Tables} {n : ℕ} {grids grids_next : List GridValue} {counts counts_next : List Counts}
    → AreSwept tables n grids counts
    → grids_next ≡ grids ++ slot_grid tables n ∷ [] → counts_next ≡ counts ++ slot_counts n ∷ []
    → AreSwept tables (n + 1) grids_next counts_next
swept_more {tables} {n} {grids} {grids_next} {counts} {counts_next} h g k = record {
  grids_are = made_more (slot_grid tables) n h.grids_are g refl;
  counts_are = made_more slot_counts n h.counts_are k refl;
}

-- as many slots as were asked for
pub swept_all : {tables : Tables} {t n : ℕ} {grids : List GridValue} {counts : List Counts} → t ≤ n → n ≤ t
    → AreSwept tables t grids counts → AreSwept tables n grids counts
swept_all {tables} {t} {n} {grids} {counts} h k swept =
    let same : t ≡ n = omega (arith, h, k) in
    subst (λ (m : ℕ). AreSwept tables m grids counts) same swept

-- so many were counted
pub length-swept : {tables : Tables} {n : ℕ} {grids : List GridValue} {counts : List Counts}
    → AreSwept tables n grids counts → length counts ≡ n
length-swept {tables} {n} {grids} {counts} swept =
    ap (λ (ks : List Counts). length ks) swept.counts_are ∙ length-map-range_with_len slot_counts 0 n

-- a list that was written back into a place of its length
pub written_back : (n : ℕ) (new old : List Job) → length new ≡ length old → length old ≡ n
    → take n (new ++ drop (length new) old) ≡ new
written_back n new old h l =
    ap (λ (rest : List Job). take n (new ++ rest)) (drop_all (length new) old (omega (arith, h)))
    ∙ ap (take n) (append-nil new) ∙ take_all n new (omega (arith, h, l))
