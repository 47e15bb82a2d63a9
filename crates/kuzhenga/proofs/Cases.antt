-- The laws that attributes name. An attribute cannot name a law with a dash, so it names one of these lists.
-- Assumes nothing.
use Rattle.capture_file.proofs.CallLaws.{written-fits}
use Rattle.dshot_spec.proofs.Tabulated.{filled_none, filled-all}

-- the length of a written file fits in a slot
pub ruleset written_cases = (written-fits)

-- the start and the end of a loop that fills a list
pub ruleset filled_cases = (filled_none, filled-all)
