-- How the jobs are kept after a change.
use Rattle.std.proofs.Common.{◌≡◌, ℕ, ◌≤◌, ◌<◌, true, false, ◌&&◌, List, [], ◌∷◌, ◌++◌, length, map, Some, sym, ap, subst, arith}
use Rattle.gem_tables.specs.Table.{is_one_of}
use Rattle.records.specs.Stock.{Stock}
use Rattle.control_job.specs.Jobs.{JobStore, has_name, is_waiting, job_numbered, waiting_named, is_kept, most_jobs, starts_row, fires_at, leaves, put_first, put_last, order_without, jobs_without, numbers_of}
use Rattle.control_job.specs.Kept.{store_of, AreKept}
use Rattle.control_job.specs.declared.job.ControlJob.{ControlJob}
use Rattle.control_job.proofs.Orders.{shorter}
use Rattle.control_job.proofs.Called.{found_in}
use Rattle.control_job.proofs.Keeping.{jobs_changed, fires_name, fires_number, leaves_name, leaves_number, in_order, jobs_first, jobs_last, jobs_forgotten, jobs_added}
use Rattle.control_job.proofs.Room.{starts_in}

-- ---- the room of a list of numbers

-- where a number that was there went, there is room for one
pub room_left : (n : ℕ) (ns ms : List ℕ) (len holds left held : ℕ) → is_one_of ns n ≡ true → ms ≡ order_without n ns → len ≡ length ns → len ≤ holds → left ≡ length ms → held ≡ holds → left < held
room_left n ns ms len holds left held e m l within k r =
    let less : length (order_without n ns) < length ns = shorter n ns e in
    let same : length ms ≡ length (order_without n ns) = ap length m in
    omega (arith, less, same, l, within, k, r)

pub no_less : (a b : ℕ) → a < b → b ≤ a → ⊥
no_less a b l m = absurd (omega (arith, l, m))

-- ---- a job comes, or goes

pub kept_added : (book : Stock ControlJob) (order later : List ℕ) (given b holds : ℕ) (s : JobStore) (j : ControlJob)
    → store_of book.kept order given ≡ s → AreKept book order given b → later ≡ order ++ j.number ∷ [] → holds ≡ b
    → s.given < j.number → is_kept j.name s.jobs ≡ false → length s.jobs < most_jobs → AreKept (record book { kept = book.kept ++ j ∷ [] }) later j.number holds
kept_added book order later given b holds s j v h g q next unknown few =
    let next' : given < j.number = subst (λ (t : JobStore). t.given < j.number) (sym v) next in
    let unknown' : is_kept j.name book.kept ≡ false = subst (λ (t : JobStore). is_kept j.name t.jobs ≡ false) (sym v) unknown in
    let few' : length book.kept < most_jobs = subst (λ (t : JobStore). length t.jobs < most_jobs) (sym v) few in
    rw (g, q) (record { store = jobs_added (store_of book.kept order given) j h.store next' unknown' few'; job_room = h.job_room; order_room = h.order_room })

pub kept_forgotten : (book : Stock ControlJob) (order later : List ℕ) (given b holds n : ℕ) (s : JobStore)
    → store_of book.kept order given ≡ s → AreKept book order given b → later ≡ order_without n order → holds ≡ b
    → is_one_of (numbers_of s.jobs) n ≡ true → AreKept (record book { kept = jobs_without n book.kept }) later given holds
kept_forgotten book order later given b holds n s v h g q e =
    let e' : is_one_of (numbers_of book.kept) n ≡ true = subst (λ (t : JobStore). is_one_of (numbers_of t.jobs) n ≡ true) (sym v) e in
    rw (g, q) (record { store = jobs_forgotten (store_of book.kept order given) n h.store e'; job_room = h.job_room; order_room = h.order_room })

-- ---- the order changes

-- the number of the QUEUED job of a name is in the order
pub waiting_in : (book : Stock ControlJob) (js : List ControlJob) (order : List ℕ) (given b n : ℕ) (name : List ℕ) → AreKept book order given b → js ≡ book.kept → waiting_named name js ≡ Some n → is_one_of order n ≡ true
waiting_in book js order given b n name h same e =
    in_order (store_of book.kept order given) n h.store
    (found_in (λ j. has_name name j && is_waiting j) book.kept n (subst (λ (ks : List ControlJob). waiting_named name ks ≡ Some n) same e))

-- the number of a job at which a row starts is in the order
pub starting_in : (book : Stock ControlJob) (order : List ℕ) (given b n row : ℕ) (s : JobStore) → store_of book.kept order given ≡ s → AreKept book order given b → starts_row row (job_numbered n s.jobs) ≡ true → is_one_of order n ≡ true
starting_in book order given b n row s v h e =
    in_order (store_of book.kept order given) n h.store
    (starts_in n row book.kept (subst (λ (t : JobStore). starts_row row (job_numbered n t.jobs) ≡ true) (sym v) e))

pub kept_first : (book : Stock ControlJob) (order later : List ℕ) (given b holds n : ℕ) → AreKept book order given b → is_one_of order n ≡ true → later ≡ put_first n order → b ≤ holds → AreKept book later given holds
kept_first book order later given b holds n h e g l =
    let room = h.order_room in
    rw g (record { store = jobs_first (store_of book.kept order given) n h.store e; job_room = h.job_room; order_room = omega (arith, room, l) })

pub kept_last : (book : Stock ControlJob) (order later : List ℕ) (given b holds n : ℕ) → AreKept book order given b → is_one_of order n ≡ true → later ≡ put_last n order → holds ≡ b → AreKept book later given holds
kept_last book order later given b holds n h e g q =
    rw (g, q) (record { store = jobs_last (store_of book.kept order given) n h.store e; job_room = h.job_room; order_room = h.order_room })

-- ---- the jobs change in their places

pub kept_fired : (book after : Stock ControlJob) (order : List ℕ) (given b n row : ℕ) → AreKept book order given b → after ≡ record book { kept = map (fires_at n row) book.kept } → AreKept after order given b
kept_fired book after order given b n row h e = subst (λ (k : Stock ControlJob). AreKept k order given b) (sym e) (record {
  store = jobs_changed (store_of book.kept order given) (fires_at n row) h.store (fires_name n row) (fires_number n row);
  job_room = h.job_room;
  order_room = h.order_room;
})

pub kept_left : (book after : Stock ControlJob) (order : List ℕ) (given b : ℕ) (job : List ℕ) → AreKept book order given b → after ≡ record book { kept = map (leaves job) book.kept } → AreKept after order given b
kept_left book after order given b job h e = subst (λ (k : Stock ControlJob). AreKept k order given b) (sym e) (record {
  store = jobs_changed (store_of book.kept order given) (leaves job) h.store (leaves_name job) (leaves_number job);
  job_room = h.job_room;
  order_room = h.order_room;
})
