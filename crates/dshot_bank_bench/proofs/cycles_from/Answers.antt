-- `dshot_bank_bench::cycles_from` meets its contract: one cycle more.
-- Assumes nothing.
use Rattle.std.proofs.Common.{◌≡◌, ◌/◌, ◌<◌, [], length, get_or, ap, sym, ◌∙◌, arith}
use Rattle.dshot_spec.specs.Tabulate.{part}
use Rattle.dshot_bank_bench.specs.Cycles.{throttles_at, cycle}
use Rattle.dshot_bank_bench.proofs.CycleLaws.{cycles_more, chunk_at, four_at}
use Rattle.dshot_bank_bench.proofs.cycles_from.Goals as goal

pub loop-n-preserved : goal.loop-n-preserved
loop-n-preserved c =
    let a = c.args in
    let s = a.setup in
    let l = c.loop-n in
    let n = l.n in
    let ts = a.throttles.now in
    let xs = a.captures.now in
    let few : n < length ts / 4 = omega (arith, c.loop-n-test.true, c.as_chunks.ensures.front_len) in
    let many : n < length xs / 640 = omega (arith, c.requires) in
    let four : get_or c.as_chunks.result.0.now n [] ≡ throttles_at ts n = ap (λ cs. get_or cs n []) c.as_chunks.ensures.front ∙ chunk_at 4 (length ts / 4) n ts few ∙ four_at ts n few in
    let windows : get_or c.as_chunks-2.result.0.now n [] ≡ part 640 n xs = ap (λ cs. get_or cs n []) c.as_chunks-2.ensures.front ∙ chunk_at 640 (length xs / 640) n xs many in
    c.cycle-run.ensures
    ∙ (λ j. cycle (four j) s.present s.mask (windows j) s.interrupts n (l.invariant j))
    ∙ sym (cycles_more s.present s.mask s.interrupts ts xs _ n)
