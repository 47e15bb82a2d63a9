-- `dshot_bank::Core::exchange_buffers` meets its contract.
-- Assumes nothing.
use Rattle.std.specs.Prelude.{Some}
use Rattle.std.proofs.Common.{◌≡◌, ℕ, Bool, true, false, ltb, not, refl, sym, ap, subst}
use mathlib.Core.Option.{some, none, none-ne-some, some-injective}
use Rattle.dshot_reply_spec.specs.Answer.{pick}
use Rattle.dshot_spec.specs.Tabulate.{tabulate}
use Rattle.dshot_bank_spec.proofs.LaneLaws.{on, off}
use Rattle.dshot_bank_spec.specs.Lanes.{position}
use Rattle.dshot_bank_spec.specs.Send.{exchange_refused, exchange_buffers}
use Rattle.dshot_bank_spec.specs.Send as Spec
use Rattle.dshot_bank.specs.States.{motor_of, motor_at, core_of}
use Rattle.dshot_bank.specs.Sends.{Sends}
use Rattle.dshot_bank.proofs.Core.exchange_buffers.Goals as goal

-- a place that is a motor's, and one that is none's
found : (m i : ℕ) → some m ≡ motor_at i → (m ≡ i) × (ltb i 4 ≡ true)
found m i e = at (ltb i 4) refl e
  where
    at : (t : Bool) → ltb i 4 ≡ t → some m ≡ pick t (some i) none → (m ≡ i) × (ltb i 4 ≡ true)
    at true k h = (some-injective _ _ h, k)
    at false k h = absurd (none-ne-some _ (sym h))

missing : (i : ℕ) → none ≡ motor_at i → ltb i 4 ≡ false
missing i e = at (ltb i 4) refl e
  where
    at : (t : Bool) → ltb i 4 ≡ t → none ≡ pick t (some i) none → ltb i 4 ≡ false
    at true k h = absurd (none-ne-some _ h)
    at false k h = k

pub returns-in-Some : goal.returns-in-Some
unfolding exchange_buffers
returns-in-Some c =
    let a = c.args in
    let p = found (motor_of c.in-Some.motor) (position not a.taken) c.in-Some.ensures in
    subst (λ (s : Spec.Sent). Sends c.exchange_refused.result s) (on _ _ p.1 (ap (λ (k : ℕ). exchange_refused 4 k (core_of a.self)) p.0)) c.exchange_refused.ensures

pub returns : goal.returns
unfolding exchange_buffers tabulate
returns c =
    let a = c.args in
    subst (λ (s : Spec.Sent). Sends (record { first_duties = Some a.duties; orders = c.started.result; core = c.frame_started.result }) s) (off _ _ (missing (position not a.taken) c.in_default.ensures) refl)
    (record { started = refl; orders = c.started.ensures a.duties; duties = refl; core = c.frame_started.ensures })
