-- `dshot::packets_of_kind` meets its contract: each call of the closure gives the word of its lane.
-- Assumes nothing.
use Rattle.std.proofs.Common.{◌≡◌, ◌<◌, ℕ, get_or, rules, ◌∙◌}
use Rattle.std.proofs.lemmas.List.{length-map}
use Rattle.std.proofs.lemmas.List.FromFn.{fill_by_all}
use Rattle.std.proofs.Math.ListN.{get_or-map}
use Rattle.dshot_spec.specs.Packet.{motor_packets, packet_word, asks}
use Rattle.dshot_spec.specs.Tabulate.{tabulate}
use Rattle.dshot.specs.Answers.{kind_of, lane_of, words}
use Rattle.dshot.specs.declared.DshotPacket.{DshotPacket}
use Rattle.dshot.proofs.packets_of_kind.Goals as goal

pub returns : goal.returns
unfolding motor_packets tabulate
returns c =
    let a = c.args in
    let packets = c.from_fn.result in
    let none : DshotPacket = record { 0 = 0 } in
    let word : ℕ → ℕ = λ i. packet_word (kind_of a.kind) (get_or a.values i 0) (asks (lane_of a.telemetry_lane) i) in
    let each : (i : ℕ) → i < 4 → (get_or packets i none).0 ≡ word i = λ i h. let called = c.from_fn.ensures.items.at i none h in search rules in
    fill_by_all word (words packets) 4 0 (length-map packets _ ∙ c.from_fn.ensures.items.long)
    (λ i h. get_or-map (λ (p : DshotPacket). p.0) packets i none ∙ each i h)
