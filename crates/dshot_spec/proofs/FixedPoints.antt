-- All of document 01's fixed points hold.
-- Assumes nothing.
use mathlib.Core.Path.{refl}
use mathlib.Core.Logic.{inr}
use lib.Dec.{lit<}
use Rattle.dshot_reply_spec.specs.Gcr.{reply_word, word_of}
use Rattle.dshot_reply_spec.specs.Move.{Moved}
use Rattle.dshot_reply_spec.specs.Value.{reply_of, speed_value, speed_of, reading_of}
use Rattle.dshot_spec.specs.FixedPoints.{Hold, fixed_points}
use Rattle.dshot_spec.specs.Packet.{packet_word}
use Rattle.dshot_spec.specs.Throttle.{throttle_value}
use Rattle.dshot_spec.specs.Timing.{from_clocks}

pub fixed-points : Hold fixed_points
unfolding packet_word from_clocks throttle_value reply_word word_of reply_of speed_value speed_of reading_of
fixed-points =
    (refl, (refl, (refl, (refl, (refl, (refl, (refl, (refl, (refl, (refl, (refl, (refl, (refl, (refl, (refl, (refl, (refl, (refl, (refl, (refl, (refl, (refl, (edge, tt)))))))))))))))))))))))
  where
    edge : Moved (reply_word 0x190) (reply_word 0x800) 15 14
    edge = record { from = lit< tt; to = lit< tt; beside = inr refl; edge = refl; free = refl; moved = refl }
