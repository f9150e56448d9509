-- The first refusal that applies to a call, by the words of the store.
-- Assumes nothing.
use Rattle.std.specs.Prelude.{cond, List, ℕ, eqb, ltb, Result, Ok, Err}
use Rattle.model.specs.declared.LaneKey.{LaneKey}
use Rattle.model.specs.declared.LaneId.{LaneId}
use Rattle.model.specs.declared.Refusal.TheVariants.{ReceiverClosed, NoSuchSender, LaneClosed, NoSuchLane}
use Rattle.lane.specs.declared.lane.Lane.{Lane}
use Rattle.lane.specs.Table.{lane_at}
use Rattle.queues.specs.Header.{issued, alive, channel_id, opening_number}
use Rattle.model.specs.declared.Refusal.{Refusal}

-- a test of a call: it passes, or a refusal applies
abbrev pub Verdict : Type 0
Verdict = Result (Unit {0}) Refusal

-- "no living sender has this key"
unfoldable pub sender_verdict : List ℕ → LaneKey → Verdict
sender_verdict t k =
    cond (ltb k.slot (issued t))
    (cond (eqb (lane_at t k.slot).living 1)
    (cond (eqb (lane_at t k.slot).key.generation k.generation) (Ok tt) (Err NoSuchSender))
    (Err NoSuchSender))
    (Err NoSuchSender)

-- "lane closed, or the receiver"
unfoldable pub closed_verdict : List ℕ → Lane → Verdict
closed_verdict t l = cond (eqb (alive t) 1) (cond (eqb l.registered 1) (Ok tt) (Err LaneClosed)) (Err LaneClosed)

-- "receiver closed"
unfoldable pub receiver_verdict : List ℕ → Verdict
receiver_verdict t = cond (eqb (alive t) 1) (Ok tt) (Err ReceiverClosed)

-- "no lane with this id": "channel, opening number, slot and generation all agree"
unfoldable pub lane_verdict : List ℕ → LaneId → Verdict
lane_verdict t i =
    cond (eqb i.channel.id (channel_id t))
    (cond (eqb i.channel.opening (opening_number t))
    (cond (ltb i.key.slot (issued t))
    (cond (eqb (lane_at t i.key.slot).registered 1)
    (cond (eqb (lane_at t i.key.slot).key.generation i.key.generation) (Ok tt) (Err NoSuchLane))
    (Err NoSuchLane))
    (Err NoSuchLane))
    (Err NoSuchLane))
    (Err NoSuchLane)

-- a second test, made where the first passes
unfoldable pub and_then : Verdict → Verdict → Verdict
and_then (Ok u) w = w
and_then (Err why) w = Err why

-- refusals 10 and 12
unfoldable pub send_verdict : List ℕ → LaneKey → Verdict
send_verdict t k = and_then (sender_verdict t k) (closed_verdict t (lane_at t k.slot))

-- refusals 6 and 13
unfoldable pub id_verdict : List ℕ → LaneId → Verdict
id_verdict t i = and_then (receiver_verdict t) (lane_verdict t i)
