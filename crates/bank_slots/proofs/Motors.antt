-- A lane as a motor: each motor's lane is below four, and a number that no motor has is four or more. A motor or none, as a slot holds it.
-- Assumes nothing.
use Rattle.std.proofs.Common.{◌≡◌, ℕ, ◌-◌, ◌%◌, ◌<◌, ◌≤◌, Bool, true, false, ltb, eqb, sym, refl, arith}
use mathlib.Core.Option.{some, none, none-ne-some, some-injective}
use borrow.Author.Tests.{ltb-false, eqb-true, eqb-false}
use Rattle.dshot_reply_spec.specs.Answer.{pick}
use Rattle.bank_slots_spec.specs.Load.{choice}
use Rattle.dshot_bank.specs.declared.DshotMotor.{DshotMotor}
use Rattle.dshot_bank.specs.declared.DshotMotor.TheVariants.{Motor1, Motor2, Motor3, Motor4}
use Rattle.dshot_bank.specs.States.{motor_of, motor_at}

pub motor_small : (m : DshotMotor) → motor_of m < 4
motor_small Motor1 = omega arith
motor_small Motor2 = omega arith
motor_small Motor3 = omega arith
motor_small Motor4 = omega arith

pub found : {m lane : ℕ} → some m ≡ motor_at lane → m ≡ lane
found {m} {lane} e = at (ltb lane 4) e
  where
    at : (t : Bool) → some m ≡ pick t (some lane) none → m ≡ lane
    at true h = some-injective _ _ h
    at false h = absurd (none-ne-some _ (sym h))

pub missing : {lane : ℕ} → none ≡ motor_at lane → 4 ≤ lane
missing {lane} e = at (ltb lane 4) refl e
  where
    at : (t : Bool) → ltb lane 4 ≡ t → none ≡ pick t (some lane) none → 4 ≤ lane
    at true q h = absurd (none-ne-some _ h)
    at false q h = ltb-false lane 4 q

-- a slot that names a motor, and one that names none
pub chosen : {m slot : ℕ} → some m ≡ choice slot → (slot ≡ 0 → ⊥) × (m ≡ (slot - 1) % 4)
chosen {m} {slot} e = at (eqb slot 0) refl e
  where
    at : (t : Bool) → eqb slot 0 ≡ t → some m ≡ pick t none (some ((slot - 1) % 4)) → (slot ≡ 0 → ⊥) × (m ≡ (slot - 1) % 4)
    at true q h = absurd (none-ne-some _ (sym h))
    at false q h = (eqb-false slot 0 q, some-injective _ _ h)

pub unchosen : {slot : ℕ} → none ≡ choice slot → slot ≡ 0
unchosen {slot} e = at (eqb slot 0) refl e
  where
    at : (t : Bool) → eqb slot 0 ≡ t → none ≡ pick t none (some ((slot - 1) % 4)) → slot ≡ 0
    at true q h = eqb-true slot 0 q
    at false q h = absurd (none-ne-some _ h)
