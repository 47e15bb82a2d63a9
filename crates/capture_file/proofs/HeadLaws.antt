-- What stands before the samples of a file, number by number.
-- Assumes nothing.
use mathlib.Core.Path.{◌≡◌, ap}
use mathlib.Core.List.{List}
use Prim.Native.Nat.{ℕ, ◌≤◌}
use lib.Dec.{eqb, ltb}
use borrow.Author.Tests.{ltb-false}
use Rattle.dshot_reply_spec.specs.Answer.{given}
use Rattle.dshot_reply_spec.specs.Refusals.{not_acapture}
use Rattle.dshot_reply_spec.proofs.Given.{second-given, then-given}
use Rattle.capture_file.proofs.AnswerLaws.{same-given}
use Rattle.capture_file.specs.Groups.{Headed, read_number}
use Rattle.capture_file.specs.File.{file_samples, Head, read_head}

-- what a head was read from
pub record Parts (bytes : List ℕ) (h : Head) : Type 0 where
  pub count : Headed
  pub mask : Headed
  pub edt : Headed
  pub count-read : read_number bytes ≡ given count
  pub mask-read : read_number count.rest ≡ given mask
  pub edt-read : read_number mask.rest ≡ given edt
  pub few : count.number ≤ file_samples
  pub flag : edt.number ≤ 1
  pub same : record { count = count.number; mask = mask.number; edt = eqb edt.number 1; rest = edt.rest } ≡ h

pub parts : (bytes : List ℕ) (h : Head) → read_head bytes ≡ given h → Parts bytes h
unfolding read_head
parts bytes h e =
    let c = then-given (read_number bytes) _ e in
    let m = then-given (read_number c.0.rest) _ c.2 in
    let f = then-given (read_number m.0.rest) _ m.2 in
    let p = second-given not_acapture (ltb file_samples c.0.number) f.2 in
    let q = second-given not_acapture (ltb 1 f.0.number) p.1 in
    record {
      count = c.0;
      mask = m.0;
      edt = f.0;
      count-read = c.1;
      mask-read = m.1;
      edt-read = f.1;
      few = ltb-false file_samples c.0.number p.0;
      flag = ltb-false 1 f.0.number q.0;
      same = same-given q.1;
    }

-- a file holds no more samples than there are slots
pub head_few : (bytes : List ℕ) (h : Head) → read_head bytes ≡ given h → h.count ≤ file_samples
head_few bytes h e = let p = parts bytes h e in rw (ap (λ (x : Head). x.count) p.same) at p.few
