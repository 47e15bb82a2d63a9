-- `case_text::captures::unroll` meets its contract: the samples so far, then those of the runs that are left, are those of all runs.
use Rattle.std.proofs.Common.{◌≡◌, ◌++◌, ◌≤◌, ◌*◌, length, take, drop}
use Rattle.case_text.specs.Captures.{unrolled}
use Rattle.case_text.proofs.captures.unroll.Given as goal

abbrev pub invariant-loop-sample : goal.invariant-loop-sample
invariant-loop-sample l = record {
  fits : l.n ≤ length l.out;
  samples : unrolled l.fn.runs ≡ take l.n l.out ++ unrolled (drop (2 * l.sample-index) l.fn.runs);
}
