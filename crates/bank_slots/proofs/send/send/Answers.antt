-- `bank_slots::send::send` meets its contract: a frame set: what is sent, the spares, and one of the two ends of the exchange.
-- Assumes nothing.
use Rattle.std.proofs.Common.{get_or, set, refl, ap, ◌∙◌, rules}
use Rattle.dshot_bank_spec.specs.State.{Buffers}
use Rattle.bank_slots_spec.specs.Load.{load}
use Rattle.dshot_bank.specs.States.{motor_of}
use Rattle.bank_slots_spec.proofs.SendMoves.{packets-sent, duties-sent, spares-sent, sends-refused, sends-started}
use Rattle.dshot_bank.specs.Sends.{motor_command_of}
use Rattle.bank_slots.specs.Frames.{refused_slots}
use Rattle.bank_slots.proofs.Motors.{motor_small, found, missing}
use Rattle.bank_slots.proofs.Sent.{kind-is, event-is, request-carried, refused-told, started_slots, started-told}
use Rattle.bank_slots.proofs.send.send.Goals as goal

pub returns-in-Some : goal.returns-in-Some
returns-in-Some c =
    let a = c.args in
    let n = c.next_command_frame-next in
    let m = motor_command_of n.result in
    let b : Buffers = record { first = a.first.now; second = a.second.now } in
    let f = c.frame_set-set in
    let motor = c.in-Some.motor in
    let lane = motor_of motor in
    let small = motor_small motor in
    let packets = packets-sent a.state.now _ m (n.ensures.result_value, n.ensures.moves) (kind-is _ c.flag.ensures c.sent-kind.ensures) f.ensures.values f.ensures.lane c.packets_of_kind-packets.ensures in
    let spares = spares-sent a.state.now _ m (n.ensures.result_value, n.ensures.moves) b c.told-first c.told-second c.timing_at.ensures packets c.marks_at.ensures (rw (c.told-first, c.told-second) c.encode_lanes-duties.ensures.fact) in
    sends-refused a.state.now _ m (n.ensures.result_value, n.ensures.moves) a.now_ms a.lease_expired a.lanes.now b spares lane (found c.in-Some.ensures) small c.exchange_refused.ensures refl refl
    (c.tell_refused.ensures ∙ ap (refused_slots lane) c.exchanges.ensures ∙ refused-told (load n.new.state).core.frame.in_second lane small)

pub returns : goal.returns
returns c =
    let a = c.args in
    let n = c.next_command_frame-next in
    let m = motor_command_of n.result in
    let b : Buffers = record { first = a.first.now; second = a.second.now } in
    let f = c.frame_set-set in
    let time = c.timing_at.ensures in
    let packets = packets-sent a.state.now _ m (n.ensures.result_value, n.ensures.moves) (kind-is _ c.flag.ensures c.sent-kind.ensures) f.ensures.values f.ensures.lane c.packets_of_kind-packets.ensures in
    let e = c.encode_lanes-duties in
    let spares = spares-sent a.state.now _ m (n.ensures.result_value, n.ensures.moves) b c.told-first c.told-second time packets c.marks_at.ensures (rw (c.told-first, c.told-second) e.ensures.fact) in
    let duties = duties-sent a.state.now _ m (n.ensures.result_value, n.ensures.moves) b c.told-first c.told-second time packets (rw (c.told-first, c.told-second) e.ensures.value) in
    let event = event-is _ a.lease_expired c.sent_event-event.ensures in
    sends-started a.state.now _ m (n.ensures.result_value, n.ensures.moves) a.now_ms a.lease_expired a.lanes.now b spares c.is_none-ordinary.result refl (missing c.in_default.ensures)
    (request-carried _ n.result (load n.new.state).core c.is_none-ordinary.ensures) c.frame_started.ensures event duties refl refl
    ((λ j. let told = c.tell.ensures ∙ ap (started_slots _) c.exchanges-2.ensures in
    set (set (set (set (told j) 11 (get_or e.result 0 0)) 12 (get_or e.result 1 0)) 13 (get_or e.result 2 0)) 14 (get_or e.result 3 0))
    ∙ started-told (load n.new.state).core.frame.in_second _ e.result (search rules))
