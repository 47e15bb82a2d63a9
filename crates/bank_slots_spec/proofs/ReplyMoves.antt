-- What the replies of a receive window write, and what that does to the bank in the slots.
-- Assumes nothing.
use mathlib.Core.Path.{◌≡◌, ◌∙◌, refl, sym, ap, subst}
use mathlib.Core.Bool.{Bool, true, false}
use mathlib.Core.List.{List, [], ◌∷◌}
use Prim.Native.Nat.{ℕ, ◌+◌, ◌-◌, ◌*◌, ◌/◌, ◌%◌, ◌^◌, ◌≤◌}
use native.Mathlib.Omega.{arith}
use lib.Bits.{bit_xor}
use lib.Dec.{eqb, ltb, leb}
use lib.ListN.{length, get_or, set, take, drop}
use Rattle.dshot_reply_spec.specs.Answer.{Answer, given, refused, and_then}
use Rattle.dshot_reply_spec.specs.Refusals.{no_reply}
use Rattle.dshot_reply_spec.specs.Value.{Reading, edt, speed_of, speed_value, reply_of}
use Rattle.dshot_reply_spec.specs.Gcr.{nibble_at, from_nibbles, decode_word}
use Rattle.dshot_reply_spec.specs.Runs.{levels, first_low, runs_of, sum, assemble, from_levels, transitions_of}
use Rattle.dshot_reply_spec.specs.Reading.{word_reply, sampled_reply}
use Rattle.dshot_spec.specs.Tabulate.{tabulate}
use Rattle.dshot_bank_spec.specs.State.{Core, LaneReply, Bank}
use Rattle.dshot_bank_spec.specs.With.{with_replies_waiting, with_replies_held, with_frame}
use Rattle.dshot_bank_spec.specs.Commands.{no_replies}
use Rattle.dshot_bank_spec.specs.Replies.{window, read_window, count_reply, decode_replies}
use Rattle.dshot_bank_spec.specs.Service.{replies_read, read_replies}
use Rattle.dshot_bank_spec.proofs.LaneLaws.{on, off, either}
use Rattle.bank_slots_spec.specs.Memory.{Row, ◌holds◌, at, write, over, within}
use Rattle.bank_slots_spec.specs.Places.{slots, REPLIES, REPLIES_WAITING, REPLIES_HELD}
use Rattle.bank_slots_spec.specs.Load.{bank_at, load, flag, reply}
use Rattle.bank_slots_spec.specs.Store.{reply_kind, reply_number, lane_rows}
use Rattle.bank_slots_spec.specs.Written.{is_reply, WrittenAt}
use Rattle.bank_slots_spec.specs.Storable.{ReplyFits}
use Rattle.bank_slots_spec.specs.Moves.{Moves, on_core}
use Rattle.bank_slots_spec.specs.Load.{lane_from}
use Rattle.bank_slots_spec.specs.Parts.{with_replies, windows_read}
use Rattle.bank_slots_spec.specs.Arguments.{present, masks}
use Rattle.bank_slots_spec.proofs.MemoryLaws.{length-write, word_back}
use Rattle.bank_slots_spec.proofs.MoveLaws.{moves-write, moves-then, moves-as, moves-at, stays}
use Rattle.bank_slots_spec.proofs.FieldLaws.{reply-back, reply-written}

-- ---- what a window reads as fits into its slots

speed-fits : (v : ℕ) → ReplyFits (speed_value v)
unfolding speed_value speed_of
speed-fits v = either ReplyFits (eqb v 0xfff) tt (either ReplyFits (eqb (v % 512 * 2 ^ (v / 512)) 0) (omega arith, omega arith) tt)

value-fits : (v : ℕ) → ReplyFits (reply_of v false)
unfolding reply_of
value-fits v = either ReplyFits (eqb (v % 4096) 0xe00) {x = given edt} tt (speed-fits (v % 4096))

-- a refusal of document 01's 7 to 11, if it is one
abbrev Refuses : Answer ℕ → Type 0
Refuses (given n) = Unit
Refuses (refused number) = (7 ≤ number) × (number ≤ 11)

then-fits : (a : Answer ℕ) (next : ℕ → Answer Reading) → Refuses a → ((n : ℕ) → ReplyFits (next n)) → ReplyFits (and_then a next)
then-fits (given n) next h f = f n
then-fits (refused number) next h f = h

nibbles-refuse : (a b c d : ℕ) → Refuses (from_nibbles a b c d)
unfolding from_nibbles
nibbles-refuse a b c d =
    let bad : (7 ≤ 9) × (9 ≤ 11) = (omega arith, omega arith) in
    either Refuses (eqb a 255) bad
    (either Refuses (eqb b 255) bad
    (either Refuses (eqb c 255) bad
    (either Refuses (eqb d 255) bad
    (either Refuses (eqb (bit_xor (bit_xor (bit_xor a b) c) d) 15) tt (omega arith, omega arith)))))

word_fits : (w : ℕ) → ReplyFits (word_reply w false)
unfolding word_reply decode_word
word_fits w = then-fits (decode_word w) (λ v. reply_of v false) (nibbles-refuse (nibble_at w 3) (nibble_at w 2) (nibble_at w 1) (nibble_at w 0)) value-fits

assembled-refuse : (ks : List ℕ) → Refuses (assemble ks)
unfolding assemble
assembled-refuse ks = either Refuses (ltb 21 (sum ks)) (omega arith, omega arith) (either Refuses (ltb (sum ks) 18) (omega arith, omega arith) tt)

levels-refuse : (ls : List Bool) → Refuses (from_levels 3 ls)
unfolding from_levels
levels-refuse ls = either Refuses (leb 57 (length ls - first_low ls)) (assembled-refuse (runs_of 3 (take 69 (drop (first_low ls) ls)))) (omega arith, omega arith)

pub window-fits : (there : Bool) (samples : List ℕ) (mask : ℕ) → ReplyFits (read_window there samples mask)
unfolding sampled_reply transitions_of
window-fits true samples mask = then-fits (transitions_of 3 samples mask) (λ w. word_reply w false) (levels-refuse (levels mask samples)) word_fits
window-fits false samples mask = (omega arith, omega arith)

-- ---- one lane's record

counted-reply : (a : Answer Reading) (l : LaneReply) → a ≡ (count_reply a l).reply
unfolding count_reply
counted-reply (given r) l = refl
counted-reply (refused n) l = refl

-- the reply before is not looked at
same-counts : (a : Answer Reading) (l : LaneReply) → count_reply a (record { reply = refused no_reply; valid = l.valid; invalid = l.invalid; consecutive_invalid = l.consecutive_invalid }) ≡ count_reply a l
unfolding count_reply
same-counts (given r) l = refl
same-counts (refused n) l = refl

pub counts_of : {a a' : Answer Reading} {v i s : ℕ} (l : LaneReply) → a ≡ a' → v ≡ l.valid → i ≡ l.invalid → s ≡ l.consecutive_invalid
    → count_reply a (record { reply = refused no_reply; valid = v; invalid = i; consecutive_invalid = s }) ≡ count_reply a' l
counts_of {a} {a'} l e f g h = (λ j. count_reply (e j) (record { reply = refused no_reply; valid = f j; invalid = g j; consecutive_invalid = h j })) ∙ same-counts a' l

-- a reply beside the counts that it leaves is the record after it
pub counted-beside : (a : Answer Reading) (l : LaneReply) (v : LaneReply) → v ≡ count_reply a l
    → record { reply = a; valid = v.valid; invalid = v.invalid; consecutive_invalid = v.consecutive_invalid } ≡ count_reply a l
counted-beside a l v e =
    let reply = counted-reply a l in
    λ j. record { reply = reply j; valid = (e j).valid; invalid = (e j).invalid; consecutive_invalid = (e j).consecutive_invalid }

-- a lane's record replaced
abbrev lane_set : ℕ → LaneReply → Bank → Bank
lane_set i l b = with_replies (set b.replies i l) b

-- a number from its two halves
abbrev halves : ℕ → ℕ
halves n = n / 65536 * 65536 + n % 65536

-- a record as it is read back
abbrev lane_read_back : LaneReply → LaneReply
lane_read_back l = record {
  reply = reply (reply_kind l.reply) (halves (reply_number l.reply));
  valid = halves l.valid;
  invalid = halves l.invalid;
  consecutive_invalid = halves l.consecutive_invalid;
}

read_back : (l : LaneReply) → ReplyFits l.reply → lane_read_back l ≡ l
read_back l h =
    let r = ap (reply (reply_kind l.reply)) (word_back (reply_number l.reply)) ∙ reply-back l.reply h in
    λ j. record { reply = r j; valid = word_back l.valid j; invalid = word_back l.invalid j; consecutive_invalid = word_back l.consecutive_invalid j }

halves-written : (a : Answer Reading) → ReplyFits a → is_reply (reply_kind a) (halves (reply_number a)) ≡ true
halves-written a h = ap (is_reply (reply_kind a)) (word_back (reply_number a)) ∙ reply-written a h

module _ (xs : List ℕ) (n : length xs ≡ slots) (l : LaneReply) (f : ReplyFits l.reply) where
  -- a lane for which everything except the halves of its numbers computes
  known : (i : ℕ) → within (lane_rows (REPLIES + 9 * i) l) slots ≡ true
      → bank_at (over (lane_rows (REPLIES + 9 * i) l) (at xs)) ≡ lane_set i (lane_read_back l) (bank_at (at xs))
      → (WrittenAt (at xs) → WrittenAt (over (lane_rows (REPLIES + 9 * i) l) (at xs)))
      → Moves (lane_set i l) xs (write (lane_rows (REPLIES + 9 * i) l) xs)
  known i h e w = moves-write (lane_rows (REPLIES + 9 * i) l) xs n h (e ∙ ap (λ (x : LaneReply). lane_set i x (bank_at (at xs))) (read_back l f)) w

  lane-0 : Moves (lane_set 0 l) xs (write (lane_rows REPLIES l) xs)
  lane-0 = known 0 refl refl (λ w. (w.0, (w.1.0, (w.1.1.0, (halves-written l.reply f, w.1.1.1.1, w.1.1.1.2, w.1.1.1.3)))))

  lane-1 : Moves (lane_set 1 l) xs (write (lane_rows (REPLIES + 9) l) xs)
  lane-1 = known 1 refl refl (λ w. (w.0, (w.1.0, (w.1.1.0, (w.1.1.1.0, halves-written l.reply f, w.1.1.1.2, w.1.1.1.3)))))

  lane-2 : Moves (lane_set 2 l) xs (write (lane_rows (REPLIES + 18) l) xs)
  lane-2 = known 2 refl refl (λ w. (w.0, (w.1.0, (w.1.1.0, (w.1.1.1.0, w.1.1.1.1, halves-written l.reply f, w.1.1.1.3)))))

  lane-3 : Moves (lane_set 3 l) xs (write (lane_rows (REPLIES + 27) l) xs)
  lane-3 = known 3 refl refl (λ w. (w.0, (w.1.0, (w.1.1.0, (w.1.1.1.0, w.1.1.1.1, w.1.1.1.2, halves-written l.reply f)))))

-- ---- the four lanes

-- a reply of a lane counted
abbrev lane_counted : ℕ → Answer Reading → Bank → Bank
lane_counted i a b = lane_set i (count_reply a (get_or b.replies i no_replies)) b

-- what a lane's window reads as, from what the hardware answered and the captures
abbrev pub read_of : List ℕ → List ℕ → ℕ → Answer Reading
read_of lanes samples i = read_window (flag (get_or lanes (4 + i) 0)) (window samples i) (get_or lanes (8 + i) 0)

module _ (lanes samples : List ℕ) where
  -- the rows of a lane whose slots begin at k
  abbrev lane_read : ℕ → ℕ → List ℕ → List Row
  lane_read k i xs = lane_rows k (count_reply (read_of lanes samples i) (lane_from k (at xs)))

  read_fits : (i : ℕ) (l : LaneReply) → ReplyFits (count_reply (read_of lanes samples i) l).reply
  read_fits i l = subst ReplyFits (counted-reply (read_of lanes samples i) l) (window-fits (flag (get_or lanes (4 + i) 0)) (window samples i) (get_or lanes (8 + i) 0))

  module _ {us vs ws xs ys : List ℕ} where
    pub replies-decoded : length us ≡ slots → vs ≡ write (lane_read REPLIES 0 us) us → ws ≡ write (lane_read (REPLIES + 9) 1 vs) vs
        → xs ≡ write (lane_read (REPLIES + 18) 2 ws) ws → ys ≡ write (lane_read (REPLIES + 27) 3 xs) xs
        → Moves (λ (b : Bank). with_replies (decode_replies 4 (present lanes) (masks lanes) samples b.replies) b) us ys
    unfolding load decode_replies tabulate
    replies-decoded n e₀ e₁ e₂ e₃ =
        let n₁ : length vs ≡ slots = ap length e₀ ∙ length-write (lane_read REPLIES 0 us) us ∙ n in
        let n₂ : length ws ≡ slots = ap length e₁ ∙ length-write (lane_read (REPLIES + 9) 1 vs) vs ∙ n₁ in
        let n₃ : length xs ≡ slots = ap length e₂ ∙ length-write (lane_read (REPLIES + 18) 2 ws) ws ∙ n₂ in
        let m₀ : Moves (lane_counted 0 (read_of lanes samples 0)) us vs = moves-as (moves-at (sym e₀) (lane-0 us n (count_reply (read_of lanes samples 0) (lane_from REPLIES (at us))) (read_fits 0 (lane_from REPLIES (at us))))) refl in
        let m₁ : Moves (lane_counted 1 (read_of lanes samples 1)) vs ws = moves-as (moves-at (sym e₁) (lane-1 vs n₁ (count_reply (read_of lanes samples 1) (lane_from (REPLIES + 9) (at vs))) (read_fits 1 (lane_from (REPLIES + 9) (at vs))))) refl in
        let m₂ : Moves (lane_counted 2 (read_of lanes samples 2)) ws xs = moves-as (moves-at (sym e₂) (lane-2 ws n₂ (count_reply (read_of lanes samples 2) (lane_from (REPLIES + 18) (at ws))) (read_fits 2 (lane_from (REPLIES + 18) (at ws))))) refl in
        let m₃ : Moves (lane_counted 3 (read_of lanes samples 3)) xs ys = moves-as (moves-at (sym e₃) (lane-3 xs n₃ (count_reply (read_of lanes samples 3) (lane_from (REPLIES + 27) (at xs))) (read_fits 3 (lane_from (REPLIES + 27) (at xs))))) refl in
        moves-as (moves-then m₀ (moves-then m₁ (moves-then m₂ m₃))) refl

-- ---- the windows, if they wait

abbrev held_rows : List Row
held_rows = (REPLIES_WAITING holds 0) ∷ (REPLIES_HELD holds 1) ∷ []

abbrev replies_held : Core → Core
replies_held c = with_frame (with_replies_held true (with_replies_waiting false c.frame)) c

replies-held : (xs : List ℕ) → length xs ≡ slots → Moves (on_core replies_held) xs (write held_rows xs)
replies-held xs n = moves-write held_rows xs n refl refl (λ w. ((w.0.0, w.0.1, w.0.2, w.0.3, refl, refl), w.1))

module _ (lanes samples : List ℕ) (xs : List ℕ) where
  abbrev Reads : List ℕ → Type 0
  Reads ys = Moves (windows_read (present lanes) (masks lanes) samples) xs ys

  pub none-waits : flag (at xs REPLIES_WAITING) ≡ false → Reads xs
  unfolding load replies_read read_replies
  none-waits h =
      let c = (load xs).core in
      let one : c ≡ replies_read c = off _ _ h refl in
      let two : (load xs).replies ≡ read_replies 4 c.frame.replies_waiting (present lanes) (masks lanes) samples (load xs).replies = off _ _ h refl in
      stays (λ j. record { core = one j; replies = two j })

  pub windows-read : {ys : List ℕ} → length ys ≡ slots → flag (at xs REPLIES_WAITING) ≡ true
      → Moves (λ (b : Bank). with_replies (decode_replies 4 (present lanes) (masks lanes) samples b.replies) b) xs ys → Reads (write held_rows ys)
  unfolding load replies_read read_replies
  windows-read {ys} n h m =
      let c = (load xs).core in
      let one : replies_held c ≡ replies_read c = on _ _ h refl in
      let two : decode_replies 4 (present lanes) (masks lanes) samples (load xs).replies ≡ read_replies 4 c.frame.replies_waiting (present lanes) (masks lanes) samples (load xs).replies = on _ _ h refl in
      moves-as (moves-then m (replies-held ys n)) (λ j. record { core = one j; replies = two j })
