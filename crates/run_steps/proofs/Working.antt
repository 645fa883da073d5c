-- The steps of a command, put together.
use Rattle.std.proofs.Common.{◌≡◌, ◌<◌, ◌≤◌, inl, inr, ⊎_elim, ℕ, Bool, true, false, cond, List, [], ◌∷◌, ◌++◌, Result}
use Rattle.std.proofs.Common.{Ok, Err, map, refl, ap, sym, subst, ◌∙◌, arith}
use Rattle.std.proofs.lemmas.Bool.{cases_lt}
use Rattle.outside.specs.Causes.{Rose}
use Rattle.outside.specs.Missed.{Missed}
use Rattle.outside.specs.Views.{ShelfView}
use Rattle.run_steps.specs.declared.statuses.Status.TheVariants as status
use Rattle.run_steps.specs.declared.stops.Stop.{Stop}
use Rattle.run_steps.specs.declared.stops.Stop.TheVariants.{OutOfMemory, Ended}
use Rattle.run_steps.specs.Outcome.{Outcome, Cause, BadSettings, BadTable, BadGrants, BadGrid, NotThere, OverLimits}
use Rattle.run_steps.specs.Outcome.{Refusal, Printed, Fetched, Bytes, TooLong, Fault, checked, ended, unread, raw}
use Rattle.run_steps.specs.Outcome.{read_as, reading, status_of, and_then}
use Rattle.run_steps.specs.Steps.{Step, Work, IsGiven, AreGiven, IsLater, IsRead, IsStop, Ends, IsShort, Misses}
use Rattle.run_steps.specs.Steps.{Begins, SpeaksOfNone, StepMisses, ReadsWith, answered, stopped_as}
use Rattle.run_steps.proofs.Taking.{given-unread}

-- a count that rose within a longer run rose in it
rose_wider : (a b c d : ℕ) → a ≤ b → b ≤ c → c ≤ d → Rose b c → Rose a d
rose_wider a b c d l m r (inl h) = inl (omega arith)
rose_wider a b c d l m r (inr e) =
    ⊎_elim (λ (h : c < d). inl (omega arith)) (λ (h : d ≤ c). inr (let same : d ≡ c = omega arith in same ∙ e)) (cases_lt c d)

-- looks at one shelf, one after another
later_self : {v : ShelfView} → IsLater v v
later_self = record { faults = omega arith; longs = omega arith; told = λ n. refl }

later_join : {a b c : ShelfView} → IsLater a b → IsLater b c → IsLater a c
later_join l m = record {
  faults = omega (arith, l.faults, m.faults);
  longs = omega (arith, l.longs, m.longs);
  told = λ n. m.told n ∙ l.told n;
}

-- what is so between the inner two of four looks is so between the outer two: a count of faults rose,
faults_wider : {a b c d : ShelfView} → IsLater a b → IsLater b c → IsLater c d → Rose b.faults c.faults → Rose a.faults d.faults
faults_wider {a} {b} {c} {d} l m r rose = rose_wider a.faults b.faults c.faults d.faults l.faults m.faults r.faults rose

-- a count of objects too long rose,
longs_wider : {a b c d : ShelfView} → IsLater a b → IsLater b c → IsLater c d → Rose b.longs c.longs → Rose a.longs d.longs
longs_wider {a} {b} {c} {d} l m r rose = rose_wider a.longs b.longs c.longs d.longs l.longs m.longs r.longs rose

-- a fetch gave this,
given_wider : {a b c d : ShelfView} (name : List ℕ) (gave : Fetched) → IsLater a b → IsLater b c → IsLater c d
    → IsGiven b c name gave
    → IsGiven a d name gave
given_wider name gave l m r given = record {
  fits = given.fits;
  agrees = λ bytes h. given.agrees bytes (l.told name ∙ h);
  faulted = λ h. faults_wider l m r (given.faulted h);
  longed = λ t h. longs_wider l m r (given.longed (l.told name ∙ t) h);
}

-- and so did each of several
all_wider : {a b c d : ShelfView} (names : List (List ℕ)) (gave : List Fetched) → IsLater a b → IsLater b c → IsLater c d
    → AreGiven b c names gave → AreGiven a d names gave
all_wider [] [] l m r given = tt
all_wider [] (x ∷ xs) l m r given = given
all_wider (n ∷ ns) [] l m r given = given
all_wider (n ∷ ns) (x ∷ xs) l m r given = (given_wider n x l m r given.0, all_wider ns xs l m r given.1)

all_unread : (old new : ShelfView) (names : List (List ℕ)) → AreGiven old new names (map (λ n. unread (old.told n)) names)
all_unread old new [] = tt
all_unread old new (n ∷ ns) = (given-unread old new n, all_unread old new ns)

-- no cause has one of these statuses
cause_read : (cause : Cause) → status_of cause ≡ status.ReadFault → ⊥
cause_read BadSettings e = cc
cause_read BadTable e = cc
cause_read BadGrants e = cc
cause_read BadGrid e = cc
cause_read NotThere e = cc
cause_read OverLimits e = cc

cause_long : (cause : Cause) → status_of cause ≡ status.FileTooLong → ⊥
cause_long BadSettings e = cc
cause_long BadTable e = cc
cause_long BadGrants e = cc
cause_long BadGrid e = cc
cause_long NotThere e = cc
cause_long OverLimits e = cc

-- no check ends a reading as a fault, or as too long
checked-read : {A : Type 0} (r : Result A Refusal) (o : Outcome) → checked r ≡ Err o → o.status ≡ status.ReadFault → ⊥
checked-read (Ok a) o e h = cc
checked-read (Err r) o e h = let same : status_of r.cause ≡ status.ReadFault = cc in cause_read r.cause same

checked_long : {A : Type 0} (r : Result A Refusal) (o : Outcome) → checked r ≡ Err o → o.status ≡ status.FileTooLong → ⊥
checked_long (Ok a) o e h = cc
checked_long (Err r) o e h = let same : status_of r.cause ≡ status.FileTooLong = cc in cause_long r.cause same

-- a file that is read by a check
module _ {A : Type 0} (check : List ℕ → Result A Refusal) (name : List ℕ) where
  -- only a fault ends the reading as a fault, and only too many bytes as too long
  read-fault : (gave : Fetched) (o : Outcome) → read_as check name gave ≡ Err o → o.status ≡ status.ReadFault → gave ≡ Fault
  read-fault (Bytes bytes) o e h = absurd (checked-read (check bytes) o e h)
  read-fault TooLong o e h = absurd (cc)
  read-fault Fault o e h = refl

  read-long : (gave : Fetched) (o : Outcome) → read_as check name gave ≡ Err o → o.status ≡ status.FileTooLong → gave ≡ TooLong
  read-long (Bytes bytes) o e h = absurd (checked_long (check bytes) o e h)
  read-long TooLong o e h = refl
  read-long Fault o e h = absurd (cc)

  -- so does only a fault, or only too many bytes, stop it
  stop-read : (gave : Fetched) (stop : Stop) → IsRead {A = A} (Err stop) (read_as check name gave)
      → (stopped_as stop).status ≡ status.ReadFault → gave ≡ Fault
  stop-read gave OutOfMemory h e = absurd (cc)
  stop-read gave (Ended o) h e = read-fault gave o h e

  stop-long : (gave : Fetched) (stop : Stop) → IsRead {A = A} (Err stop) (read_as check name gave)
      → (stopped_as stop).status ≡ status.FileTooLong → (gave ≡ TooLong) × (IsShort {A = A} (Err stop) → ⊥)
  stop-long gave OutOfMemory h e = absurd (cc)
  stop-long gave (Ended o) h e = (read-long gave o h e, λ s. s)

  -- too many bytes are read as nothing
  not-long : (gave : Fetched) (a : A) → read_as check name gave ≡ Ok a → gave ≡ TooLong → ⊥
  not-long (Bytes bytes) a e h = cc
  not-long TooLong a e h = cc
  not-long Fault a e h = cc

  -- a file that was not taken is not checked
  stopped-is : (gave : Fetched) (stop : Stop) → IsRead {A = List ℕ} (Err stop) (read_as raw name gave)
      → IsRead {A = A} (Err stop) (read_as check name gave)
  stopped-is gave OutOfMemory h = tt
  stopped-is (Bytes bytes) (Ended o) h = absurd (cc)
  stopped-is TooLong (Ended o) h = ap Err (cc)
  stopped-is Fault (Ended o) h = ap Err (cc)

  stopped-quiet : (gave : Fetched) → ReadsWith status.ReadFault (read_as raw name gave)
      → ReadsWith status.ReadFault (read_as check name gave)
  stopped-quiet (Bytes bytes) h = absurd h
  stopped-quiet TooLong h = h
  stopped-quiet Fault h = h

whole-read : (whole : Bool) → cond whole status.Done status.GrantsRefused ≡ status.ReadFault → ⊥
whole-read true h = cc
whole-read false h = cc

whole_long : (whole : Bool) → cond whole status.Done status.GrantsRefused ≡ status.FileTooLong → ⊥
whole_long true h = cc
whole_long false h = cc

-- no job speaks of a missed file
pub job_speaks : (job : Result Printed Refusal) → SpeaksOfNone (ended job)
job_speaks (Ok p) = record { read = whole-read p.whole; long = whole_long p.whole }
job_speaks (Err r) = record { read = cause_read r.cause; long = cause_long r.cause }

-- bytes that were taken, and then checked
taken-bytes : (name : List ℕ) (gave : Fetched) (bytes : List ℕ) → read_as raw name gave ≡ Ok bytes → gave ≡ Bytes bytes
taken-bytes name (Bytes b) bytes e = let same : b ≡ bytes = cc in ap Bytes same
taken-bytes name TooLong bytes e = absurd (cc)
taken-bytes name Fault bytes e = absurd (cc)

raw-read : (name : List ℕ) (gave : Fetched) (bytes : List ℕ) → gave ≡ Bytes bytes
    → ReadsWith status.ReadFault (read_as raw name gave) → ⊥
raw-read name (Bytes b) bytes e h = h
raw-read name TooLong bytes e h = cc
raw-read name Fault bytes e h = cc

checked_misses : {A : Type 0} (check : List ℕ → Result A Refusal) (old new : List Missed) (bytes : List ℕ)
    (result : Result A Stop) → new ≡ old
    → IsRead result (checked (check bytes)) → StepMisses old new result
checked_misses check old new bytes (Ok a) same h = same
checked_misses check old new bytes (Err (Ended o)) same h =
    inl (record { noted = same; says = record { read = checked-read (check bytes) o h; long = checked_long (check bytes) o h } })
checked_misses check old new bytes (Err OutOfMemory) same h =
    inl (record { noted = same; says = record { read = λ e. cc; long = λ e. cc } })

-- a file that was taken, and then checked
pub checked-step : {A : Type 0} (check : List ℕ → Result A Refusal) {name : List ℕ} {old new : ShelfView} {bytes : List ℕ}
    {result : Result A Stop}
    → Step raw name old new (Ok bytes) → IsRead result (checked (check bytes)) → Step check name old new result
checked-step {A} check {name} {old} {new} {bytes} {result} step h =
    let gave : step.gave ≡ Bytes bytes = taken-bytes name step.gave bytes step.is in
    record {
      gave = Bytes bytes;
      given = subst (IsGiven old new name) gave step.given;
      is = h;
      missed = checked_misses check old.missed new.missed bytes result step.missed h;
      longed = λ e. absurd (cc);
      quiet = inr (⊎_elim (λ r. absurd (raw-read name step.gave bytes gave r)) (λ (e : new.faults ≡ old.faults). e) step.quiet);
      short = inr (⊎_elim (λ (e : step.gave ≡ TooLong). absurd (cc)) (λ (e : new.longs ≡ old.longs). e) step.short);
      later = step.later;
    }

short_as : (A B : Type 0) (stop : Stop) → IsShort {A = A} (Err stop) → IsShort {A = B} (Err stop)
short_as A B OutOfMemory h = tt
short_as A B (Ended o) h = h

-- a file that was not taken
pub stopped_step : {A : Type 0} (check : List ℕ → Result A Refusal) {name : List ℕ} {old new : ShelfView} {stop : Stop}
    → Step {A = List ℕ} raw name old new (Err stop)
    → Step {A = A} check name old new (Err stop)
stopped_step {A} check {name} {old} {new} {stop} step = record {
  gave = step.gave;
  given = step.given;
  is = stopped-is check name step.gave stop step.is;
  missed = step.missed;
  longed = λ e. ⊎_elim (λ s. inl (short_as (List ℕ) A stop s)) (λ (r : Rose old.longs new.longs). inr r) (step.longed e);
  quiet = ⊎_elim (λ r. inl (stopped-quiet check name step.gave r)) (λ (e : new.faults ≡ old.faults). inr e) step.quiet;
  short = step.short;
  later = step.later;
}

-- what a stopped reading answers is what the command ends with
stopped : {A : Type 0} (read : Result A Outcome) (next : A → Outcome) (stop : Stop) → IsRead {A = A} (Err stop) read
    → Ends (Err stop) (and_then read next)
stopped read next OutOfMemory h = tt
stopped read next (Ended o) h = rw h refl

faulted_outcome : {A : Type 0} (read : Result A Outcome) (next : A → Outcome) → ReadsWith status.ReadFault read
    → (and_then read next).status ≡ status.ReadFault
faulted_outcome (Ok a) next h = absurd h
faulted_outcome (Err o) next h = h

-- a command that its first reading stops; the files behind it are not fetched
pub work_stop : {A : Type 0} (next : A → List Fetched → Outcome) {check : List ℕ → Result A Refusal} {name : List ℕ}
    (names : List (List ℕ)) {old new : ShelfView} {stop : Stop}
    → Step check name old new (Err stop) → Work (reading check name next) (name ∷ names) old new (Err stop)
unfolding reading
work_stop {A} next {check} {name} names {old} {new} {stop} step =
    let rest : List Fetched = map (λ n. unread (old.told n)) names in
    record {
      gave = step.gave ∷ rest;
      given = (step.given, all_unread old new names);
      is = stopped (read_as check name step.gave) (λ a. next a rest) stop step.is;
      missed = step.missed;
      read = λ e. step.given.faulted (stop-read check name step.gave stop step.is e);
      long =
          λ e. let h = stop-long check name step.gave stop step.is e in ⊎_elim (λ s. absurd (h.1 s)) (λ r. r) (step.longed h.0);
      quiet = ⊎_elim (λ h. inl (faulted_outcome (read_as check name step.gave) (λ a. next a rest) h)) (λ h. inr h) step.quiet;
      short = ⊎_elim (λ h. inl (rw h refl)) (λ h. inr h) step.short;
      later = step.later;
    }

-- what the next steps answer is what the command answers, where the reading went well
went_on : {A : Type 0} (read : Result A Outcome) (next : A → Outcome) (a : A) (result : Result Outcome Stop) → read ≡ Ok a
    → Ends result (next a) → Ends result (and_then read next)
went_on read next a result e h = rw e h

-- a command whose first reading went well
pub work_step : {A : Type 0} (next : A → List Fetched → Outcome) {check : List ℕ → Result A Refusal} {name : List ℕ}
    {names : List (List ℕ)} {old mid new : ShelfView} {a : A} {result : Result Outcome Stop}
    → Step check name old mid (Ok a) → Work (next a) names mid new result
    → Work (reading check name next) (name ∷ names) old new result
unfolding reading
work_step {A} next {check} {name} {names} {old} {mid} {new} {a} {result} step work =
    record {
      gave = step.gave ∷ work.gave;
      given = (
        given_wider name step.gave later_self step.later work.later step.given,
        all_wider names work.gave step.later work.later later_self work.given,
      );
      is = went_on (read_as check name step.gave) (λ b. next b work.gave) a result step.is work.is;
      missed = subst (λ (m : List Missed). Misses m new.missed (answered result)) step.missed work.missed;
      read = λ e. faults_wider step.later work.later later_self (work.read e);
      long = λ e. longs_wider step.later work.later later_self (work.long e);
      quiet =
          ⊎_elim (λ h. inl (rw step.is h))
          (λ (h : new.faults ≡ mid.faults). ⊎_elim (λ r. absurd (rw step.is at r))
          (λ (e : mid.faults ≡ old.faults). inr (h ∙ e)) step.quiet) work.quiet;
      short =
          ⊎_elim (λ h. inl (rw step.is h))
          (λ (h : new.longs ≡ mid.longs). ⊎_elim (λ r. absurd (not-long check name step.gave a step.is r))
          (λ (e : mid.longs ≡ old.longs). inr (h ∙ e)) step.short) work.short;
      later = later_join step.later work.later;
    }

-- first steps of which the first reading went well
pub begins_step : {A B : Type 0} (second : A → (B → List Fetched → Outcome) → List Fetched → Outcome)
    {check : List ℕ → Result A Refusal} {name : List ℕ} {names : List (List ℕ)} {old mid new : ShelfView} {a : A}
    {result : Result B Stop} → Step check name old mid (Ok a) → Begins (second a) names mid new result
    → Begins (λ next. reading check name (λ a. second a next)) (name ∷ names) old new result
begins_step second step begins = record {
  goes_on = λ b e next later last answer work.
      work_step (λ a. second a next) step (begins.goes_on b e next later last answer work);
  stops = λ stop e next later. work_step (λ a. second a next) step (begins.stops stop e next later);
}

-- first steps that the first reading stops
pub begins_stop : {A B : Type 0} (second : A → (B → List Fetched → Outcome) → List Fetched → Outcome)
    {check : List ℕ → Result A Refusal} {name : List ℕ} (names : List (List ℕ)) {old new : ShelfView} {stop : Stop}
    → Step check name old new (Err stop)
    → Begins {A = B} (λ next. reading check name (λ a. second a next)) (name ∷ names) old new (Err stop)
begins_stop second {check} {name} names {old} {new} {stop} step = record {
  goes_on = λ b e. absurd (let never : ⊥ = cc in never);
  stops = λ other e next later.
      let same : stop ≡ other = cc in
      subst (λ (s : Stop). Work (reading check name (λ a. second a next)) (name ∷ names ++ later) old new (Err s)) same
      (work_stop (λ a. second a next) (names ++ later) step);
}

-- first steps behind which none is left
pub begins_end : {A : Type 0} (a : A) (shelf : ShelfView) → Begins (λ next. next a) [] shelf shelf (Ok a)
begins_end {A} a shelf = record {
  goes_on = λ b e next later last answer work.
      let same : b ≡ a = cc in subst (λ (x : A). Work (next x) later shelf last answer) same work;
  stops = λ stop e. absurd (let never : ⊥ = cc in never);
}

-- first steps whose value is looked at in another way
pub begins_as : {A B : Type 0} (f : A → B) {steps : (A → List Fetched → Outcome) → List Fetched → Outcome}
    {names : List (List ℕ)} {old new : ShelfView} {a : A} → Begins steps names old new (Ok a)
    → Begins (λ next. steps (λ x. next (f x))) names old new (Ok (f a))
begins_as {A} {B} f {steps} {names} {old} {new} {a} begins = record {
  goes_on = λ b e next later last answer work.
      let same : b ≡ f a = cc in
      begins.goes_on a refl (λ x. next (f x)) later last answer
      (subst (λ (y : B). Work (next y) later new last answer) same work);
  stops = λ stop e. absurd (let never : ⊥ = cc in never);
}

pub begins_stopped : {A B : Type 0} (f : A → B) {steps : (A → List Fetched → Outcome) → List Fetched → Outcome}
    {names : List (List ℕ)} {old new : ShelfView} {stop : Stop} → Begins steps names old new (Err stop)
    → Begins (λ next. steps (λ x. next (f x))) names old new (Err stop)
begins_stopped f {steps} {names} {old} {new} {stop} begins = record {
  goes_on = λ b e. absurd (let never : ⊥ = cc in never);
  stops = λ other e next later.
      let same : stop ≡ other = cc in begins.stops other (ap Err same) (λ x. next (f x)) later;
}

-- an answer of steps that fetched nothing
answered_speaks : (o : Outcome) (result : Result Outcome Stop) → SpeaksOfNone o → Ends result o → SpeaksOfNone (answered result)
answered_speaks o (Ok p) s h = subst SpeaksOfNone h s
answered_speaks o (Err (Ended p)) s h = subst SpeaksOfNone h s
answered_speaks o (Err OutOfMemory) s h = record { read = λ e. cc; long = λ e. cc }

-- the end of a command, where no file is left to fetch
pub work_end : (wanted : Outcome) (shelf : ShelfView) (result : Result Outcome Stop) → SpeaksOfNone wanted
    → Ends result wanted → Work (λ gave. wanted) [] shelf shelf result
work_end wanted shelf result speaks h =
    let says : SpeaksOfNone (answered result) = answered_speaks wanted result speaks h in
    record {
      gave = [];
      given = tt;
      is = h;
      missed = inl (record { noted = refl; says = says });
      read = λ e. absurd (says.read e);
      long = λ e. absurd (says.long e);
      quiet = inr refl;
      short = inr refl;
      later = later_self;
    }

-- the job behind the last reading
pub work_job : (job : Result Printed Refusal) {shelf : ShelfView} {result : Result Outcome Stop} → Ends result (ended job)
    → Work (λ gave. ended job) [] shelf shelf result
work_job job {shelf} {result} h = work_end (ended job) shelf result (job_speaks job) h

stop_ends : (wanted : Outcome) (stop : Stop) → IsStop wanted stop → Ends (Err stop) wanted
stop_ends wanted (Ended o) h = sym h
stop_ends wanted OutOfMemory h = tt

-- a refusal with which a run ends before it fetches a file
pub work_refused : (wanted : Outcome) (shelf : ShelfView) (stop : Stop) → SpeaksOfNone wanted → IsStop wanted stop
    → Work (λ gave. wanted) [] shelf shelf (Err stop)
work_refused wanted shelf stop speaks h = work_end wanted shelf (Err stop) speaks (stop_ends wanted stop h)
