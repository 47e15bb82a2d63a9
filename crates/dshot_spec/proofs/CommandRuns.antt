-- A run of commands sends each command its number of times, in order. After that it sends none for ever.
-- Assumes nothing.
use Rattle.std.specs.Prelude.{◌≡◌, ℕ, zero, suc, ◌+◌, ◌*◌, ◌%◌, ◌<◌, Bool, List, [], ◌∷◌, ◌++◌, length, replicate}
use mathlib.Core.Path.{refl, sym, ap, ◌∙◌}
use mathlib.Core.List.{append_assoc}
use native.Mathlib.Omega.{arith}
use lib.Dec.{lit<}
use lib.ListN.{length-append}
use lib.Seq.{append_snoc, get_or-append_seam}
use borrow.Author.Tests.{le-ltb, lt-ltb, ne_eqb}
use Rattle.dshot_reply_spec.specs.Answer.{pick}
use Rattle.dshot_spec.specs.Command.{Command, CommandRun, Next, none, send, counted, next_value, repeated, sent_by, spin_direction}

-- the run with some commands behind it, and the rest to come
abbrev run_at : List ℕ → List ℕ → ℕ → CommandRun
run_at done cs left = record { commands = done ++ cs; index = length done; repeats_left = left }

module _ (r : ℕ) (done : List ℕ) where
  -- a run at its end sends none and stays
  at-end : (left : ℕ) → next_value r (run_at done [] left) ≡ record { command = none; run = run_at done [] left }
  unfolding next_value
  at-end left = rw (le-ltb (length done) (length (done ++ [])) (omega (arith, length-append done [])))

  -- so it sends none for ever
  ended : (n left : ℕ) → sent_by r n (run_at done [] left) ≡ replicate n none
  ended zero left = refl
  ended (suc n) left =
      ap (λ (x : Next). x.command ∷ sent_by r n x.run) (at-end left) ∙ ap (λ (cs : List Command). none ∷ cs) (ended n left)

  module _ (c : ℕ) (cs : List ℕ) where
    -- the next command of a run, and how often it is to be sent after that
    next : (left : ℕ) → left < 256
        → next_value r (run_at done (c ∷ cs) (suc left)) ≡ record { command = send c; run = counted r (run_at done (c ∷ cs) (suc left)) left }
    unfolding next_value
    next left h =
        let short : length done < length (done ++ (c ∷ cs)) = omega (arith, length-append done (c ∷ cs)) in
        let down : (suc left + 255) % 256 ≡ left = omega arith in
        rw (lt-ltb (length done) (length (done ++ (c ∷ cs))) short, get_or-append_seam done c cs 0, down)

    -- that command, and then those of the run after it
    sent-next : (left n : ℕ) → left < 256
        → sent_by r (suc left + n) (run_at done (c ∷ cs) (suc left))
        ≡ send c ∷ sent_by r (left + n) (counted r (run_at done (c ∷ cs) (suc left)) left)
    sent-next left n h =
        let e : suc left + n ≡ suc (left + n) = omega arith in
        rw e (ap (λ (x : Next). x.command ∷ sent_by r (left + n) x.run) (next left h))

    -- the last time, the next command is due
    passed : counted r (run_at done (c ∷ cs) 1) 0 ≡ run_at (done ++ (c ∷ [])) cs r
    passed = λ j. record { commands = sym (append_snoc done c cs) j; index = sym (length-append done (c ∷ [])) j; repeats_left = r }

    -- a command that is to be sent so often is sent so often
    sent-times : (left n : ℕ) → left < 256
        → sent_by r (suc left + n) (run_at done (c ∷ cs) (suc left))
        ≡ replicate (suc left) (send c) ++ sent_by r n (run_at (done ++ (c ∷ [])) cs r)
    sent-times zero n h =
        let e : 0 + n ≡ n = omega arith in
        sent-next zero n h ∙ rw (e, passed)
    sent-times (suc left) n h =
        sent-next (suc left) n h
        ∙ rw (ne_eqb (suc left) 0 (λ e. omega arith)) (ap (λ (l : List Command). send c ∷ l) (sent-times left n (omega arith)))

-- the commands to come, each r times
rest-sent : (r : ℕ) (done cs : List ℕ) (n : ℕ) → 0 < r → r < 256
    → sent_by r (length cs * r + n) (run_at done cs r) ≡ repeated r cs ++ replicate n none
rest-sent zero done cs n h l = absurd (omega arith)
rest-sent (suc left) done [] n h l = let e : 0 * suc left + n ≡ n = omega arith in rw e (ended (suc left) done n (suc left))
rest-sent (suc left) done (c ∷ cs) n h l =
    let r = suc left in
    let m = length cs * r + n in
    let e : suc (length cs) * r + n ≡ r + m = omega arith in
    ap (λ (k : ℕ). sent_by r k (run_at done (c ∷ cs) r)) e
    ∙ sent-times r done c cs left m (omega arith)
    ∙ ap (λ (xs : List Command). replicate r (send c) ++ xs) (rest-sent r (done ++ (c ∷ [])) cs n h l)
    ∙ sym (append_assoc (replicate r (send c)) (repeated r cs) (replicate n none))

-- a run sends each of its commands r times, in order, and then none
pub run-from : (r : ℕ) (cs : List ℕ) (n : ℕ) → 0 < r → r < 256
    → sent_by r (length cs * r + n) (record { commands = cs; index = 0; repeats_left = r }) ≡ repeated r cs ++ replicate n none
run-from r cs = rest-sent r [] cs

-- a direction is sent ten times, the command to save ten times, and then none
pub direction-run : (reversed : Bool) (n : ℕ)
    → sent_by 10 (20 + n) (spin_direction reversed)
    ≡ replicate 10 (send (pick reversed 21 20)) ++ (replicate 10 (send 12) ++ replicate n none)
unfolding spin_direction
direction-run reversed n = run-from 10 (pick reversed 21 20 ∷ 12 ∷ []) n (lit< tt) (lit< tt)
