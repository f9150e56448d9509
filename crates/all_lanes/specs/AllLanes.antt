-- Release consumed and poll all lanes: what is done for every issued slot, as words. And held.
-- Assumes nothing.
use Rattle.std.specs.Prelude.{◌≡◌, Bool, cond, ◌&&◌, List, ℕ, zero, suc, ◌+◌, ◌≤◌, ◌<◌, eqb, length}
use Rattle.model.specs.declared.Answer.TheVariants.{Done, Held}
use Rattle.lane.specs.declared.lane.Lane.{Lane}
use Rattle.lane.specs.Lane.{release_pending}
use Rattle.lane.specs.Order.{Refundable}
use Rattle.lane.specs.Table.{header_words, lane_at, put_lane}
use Rattle.queues.specs.Header.{issued, held_count}
use Rattle.ready.specs.Ready.{enqueue}
use Rattle.store.specs.Refusal.{receiver_verdict}
use Rattle.store.specs.Words.{Words, unless_refused}

-- one thing done for the slots from x on, n of them, one after the other
unfoldable pub for_slots : (List ℕ → ℕ → List ℕ) → ℕ → ℕ → List ℕ → List ℕ
for_slots f zero x t = t
for_slots f (suc n) x t = for_slots f n (x + 1) (f t x)

-- credit goes back "on `release_consumed`", of a registered lane
unfoldable pub release_slot : List ℕ → ℕ → List ℕ
release_slot t x = cond (eqb (lane_at t x).registered 1) (put_lane t (release_pending (lane_at t x)).lane) t

-- what giving back asks of the lanes
abbrev pub AllRefundable : List ℕ → Type 0
AllRefundable t = (x : ℕ) → x < issued t → (lane_at t x).registered ≡ 1 → Refundable (lane_at t x)

unfoldable pub release_all : List ℕ → List ℕ
release_all t = for_slots release_slot (issued t) 0 t

unfoldable pub release_consumed : List ℕ → List ℕ → Words
release_consumed t r = unless_refused (receiver_verdict t) t r (Done, release_all t, r)

-- a registered lane, "unpaused and unqueued"
unfoldable pub may_queue : Lane → Bool
may_queue l = eqb l.registered 1 && (eqb l.paused 0 && eqb l.queued 0)

-- "Whatever queues a lane [..] puts it at the back."
unfoldable pub poll_slot : List ℕ → ℕ → List ℕ
poll_slot t x = cond (may_queue (lane_at t x)) (enqueue t x) t

unfoldable pub poll_slots : List ℕ → List ℕ
poll_slots t = for_slots poll_slot (issued t) 0 t

unfoldable pub poll_all_lanes : List ℕ → List ℕ → Words
poll_all_lanes t r = unless_refused (receiver_verdict t) t r (Done, poll_slots t, r)

-- what held asks of the table: that the header's words are there. So it answers the word where that is untrue too, to which no walk comes.
abbrev pub HasHeader : List ℕ → Type 0
HasHeader t = header_words ≤ length t

-- document 02, N6: "the inner held call only reads it"
unfoldable pub count_held : List ℕ → List ℕ → Words
count_held t r = (Held (held_count t), t, r)
