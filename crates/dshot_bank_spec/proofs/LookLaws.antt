-- What the calls that only look answer, in every state and after the calls whose effect they show.
-- Assumes nothing.
use mathlib.Core.Path.{◌≡◌, ◌∙◌, refl, sym, ap}
use Prim.Native.Nat.{ℕ, ◌<◌, ◌≤◌}
use mathlib.Core.Bool.{true, false}
use mathlib.Core.List.{List}
use lib.ListN.{length, get_or, replicate, get_or-map}
use Rattle.dshot_spec.specs.Tabulate.{part}
use Rattle.dshot_spec.specs.Throttle.{throttle_values}
use Rattle.dshot_bank_spec.specs.State.{LaneReply}
use Rattle.dshot_bank_spec.specs.Commands.{no_replies, command_stop}
use Rattle.dshot_bank_spec.specs.Calls.{command_stop_call, command_throttles_call, is_faulted, stats, requested_values_call, reply_stats, sending, ReplyStats, done, refused, flag, counts, values, reply_counts, slots, State, Stepped, reply_stats_of, told}
use Rattle.dshot_bank_spec.specs.Steps.{port_refusal, step}
use Rattle.dshot_bank_spec.proofs.LaneLaws.{on, off}
use Rattle.dshot_bank_spec.proofs.PortLaws.{SlotsFit, view-acts}
use Rattle.dshot_bank_spec.proofs.ThrottleLaws.{throttles-faulted, throttles-taken, throttles-set}

module _ (n : ℕ) (s : State) where
  -- ---- is_faulted

  -- if `is_faulted` says yes, the bank refuses all throttles with 18 (faulted)
  pub faulted-told : (step n s is_faulted).answer ≡ flag true → (commands : List ℕ) (now lease : ℕ)
      → step n s (command_throttles_call commands now lease) ≡ told s (refused 18)
  unfolding step port_refusal
  faulted-told e commands now lease = throttles-faulted n s commands now lease (cc e)

  -- one that is not takes all up to 2000
  pub sound-told : (step n s is_faulted).answer ≡ flag false → (commands : List ℕ) (now lease : ℕ)
      → ((i : ℕ) → i < length commands → get_or commands i 0 ≤ 2000)
      → (step n s (command_throttles_call commands now lease)).answer ≡ done
  unfolding step port_refusal
  sound-told e commands now lease low = throttles-taken n s commands now lease (cc e) low

  -- ---- requested_values

  -- after throttles that are taken, the look gives their values
  pub throttles-told : s.bank.core.frame.faulted ≡ false → (commands : List ℕ) (now lease : ℕ)
      → ((i : ℕ) → i < length commands → get_or commands i 0 ≤ 2000) → (i : ℕ) → i < length commands → 0 < get_or commands i 0
      → (step n (step n s (command_throttles_call commands now lease)).state requested_values_call).answer ≡ values (throttle_values n commands)
  unfolding step port_refusal
  throttles-told f commands now lease low i l h =
      ap (λ (r : Stepped). values r.state.bank.core.demand.requested_values) (throttles-set n s commands now lease f low i l h)

  -- after a stop 0 for every lane
  pub stop-told : (step n (step n s command_stop_call).state requested_values_call).answer ≡ values (replicate n 0)
  unfolding step port_refusal command_stop
  stop-told = refl

  -- ---- stats, reply_stats

  -- the look gives the counts as they stand
  pub stats-told : (step n s stats).answer ≡ counts s.bank.core.stats
  unfolding step port_refusal
  stats-told = refl

  -- and each lane's reply counts, in its place
  pub reply-stats-told : (q : ReplyStats) → (step n s reply_stats).answer ≡ reply_counts q → (lane : ℕ)
      → (get_or q.valid lane 0 ≡ (get_or s.bank.replies lane no_replies).valid)
      × (get_or q.invalid lane 0 ≡ (get_or s.bank.replies lane no_replies).invalid)
      × (get_or q.consecutive_invalid lane 0 ≡ (get_or s.bank.replies lane no_replies).consecutive_invalid)
  unfolding step port_refusal
  reply-stats-told q e lane =
      let l = s.bank.replies in
      let same : q ≡ reply_stats_of l = cc e in (
        ap (λ (r : ReplyStats). get_or r.valid lane 0) same ∙ get_or-map (λ (x : LaneReply). x.valid) l lane no_replies,
        ap (λ (r : ReplyStats). get_or r.invalid lane 0) same ∙ get_or-map (λ (x : LaneReply). x.invalid) l lane no_replies,
        ap (λ (r : ReplyStats). get_or r.consecutive_invalid lane 0) same ∙ get_or-map (λ (x : LaneReply). x.consecutive_invalid) l lane no_replies,
      )

  -- ---- sending, the view

  module _ (lane : ℕ) (there : lane < n) (fit : SlotsFit n (length s.buffers.first) (length s.buffers.second)) where
    -- the second buffer's part, if the lane's mark is set
    pub view-second : get_or s.bank.core.frame.in_second lane false ≡ true → (step n s (sending lane)).answer ≡ slots (part 16 lane s.buffers.second)
    view-second m = ap (λ (r : Stepped). r.answer) (view-acts n s lane fit there) ∙ ap (λ (l : List ℕ). slots (part 16 lane l)) (sym (on _ _ m refl))

    -- else the first's
    pub view_first : get_or s.bank.core.frame.in_second lane false ≡ false → (step n s (sending lane)).answer ≡ slots (part 16 lane s.buffers.first)
    view_first m = ap (λ (r : Stepped). r.answer) (view-acts n s lane fit there) ∙ ap (λ (l : List ℕ). slots (part 16 lane l)) (sym (off _ _ m refl))
