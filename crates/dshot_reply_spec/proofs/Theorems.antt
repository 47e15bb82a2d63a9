-- Demand 3's claims of the reader, at samples and mask, for every number of samples a bit. They say what the reader answers for three captures: one
-- that renders a reply word, a damaged one, and one with a moved edge.
-- Assumes nothing.
use mathlib.Core.Path.{◌≡◌, subst, refl, ap, ◌∙◌}
use mathlib.Core.Logic.{◌⊎◌, inl, inr, ⊎_elim}
use mathlib.Core.Bool.{Bool, true, false, not, ◌&&◌, ◌||◌}
use mathlib.Core.List.{List}
use Prim.Native.Nat.{ℕ, ◌*◌, ◌/◌, ◌%◌, ◌^◌, ◌<◌, ◌≤◌}
use native.Mathlib.Nat.{mod-mod}
use native.Mathlib.Omega.{arith}
use lib.Dec.{eqb, lit≤}
use Rattle.dshot_reply_spec.proofs.Choice.{not-both}
use Rattle.dshot_reply_spec.proofs.Damage.{Undecoded, damaged}
use Rattle.dshot_reply_spec.proofs.Decode.{decode-reply, ends-in-zeros}
use Rattle.dshot_reply_spec.proofs.Moves.{moved-decode}
use Rattle.dshot_reply_spec.proofs.Rendered.{rendered-read}
use Rattle.dshot_reply_spec.specs.Answer.{Answer, Rejected, given, pick, refused, and_then}
use Rattle.dshot_reply_spec.specs.Refusals.{invalid_symbol, no_reply, zero_period}
use Rattle.dshot_reply_spec.specs.Claims.{MovedEdge}
use Rattle.dshot_reply_spec.specs.Gcr.{decode_word, reply_word}
use Rattle.dshot_reply_spec.specs.Move.{Formed, Moved, Turned, word_value}
use Rattle.dshot_reply_spec.specs.Nearest.{nearest}
use Rattle.dshot_reply_spec.specs.Reading.{sampled_reply, word_reply}
use Rattle.dshot_reply_spec.specs.Render.{Damaged, Renders}
use Rattle.dshot_reply_spec.specs.Runs.{levels, transitions_of}
use Rattle.dshot_reply_spec.specs.Value.{Reading, edt, erpm, reading_of, reply_of, speed_of, speed_value}

-- ---- a value reads as a reading, or is refused with 11

abbrev Sound : Answer Reading → Type 0
Sound a = ((r : Reading) × (a ≡ given r)) ⊎ (a ≡ refused zero_period)

sound-pick : (b : Bool) (x y : Answer Reading) → Sound x → Sound y → Sound (pick b x y)
sound-pick true x y p q = p
sound-pick false x y p q = q

sound-given : (r : Reading) → Sound (given r)
sound-given r = inl (r, refl)

speed-sound : (p : ℕ) → Sound (speed_of p)
unfolding speed_of
speed-sound p = sound-pick (eqb p 0) (refused zero_period) (given (erpm (nearest 600000 p))) (inr refl) (sound-given (erpm (nearest 600000 p)))

speed-value-sound : (v : ℕ) → Sound (speed_value v)
unfolding speed_value
speed-value-sound v = sound-pick (eqb v 0xfff) (given (erpm 0)) (speed_of (v % 512 * 2 ^ (v / 512))) (sound-given (erpm 0)) (speed-sound (v % 512 * 2 ^ (v / 512)))

value-sound : (value : ℕ) (extended : Bool) → Sound (reply_of value extended)
unfolding reply_of
value-sound value extended =
    let v = value % 4096 in
    let other = given (reading_of (v / 512) (v % 256)) in
    let speeds = not extended || (eqb (v / 256 % 2) 1 || eqb (v / 256) 0) in
    sound-pick (not extended && eqb v 0xe00) (given edt) (pick speeds (speed_value v) other) (sound-given edt)
    (sound-pick speeds (speed_value v) other (speed-value-sound v) (sound-given (reading_of (v / 512) (v % 256))))

sound-kept : (a : Answer Reading) → Sound a → Rejected a → ⊥
sound-kept a (inl p) j = not-both p.1 j.refusal
sound-kept a (inr p) j = let f = j.refusal in let z : j.number ≡ zero_period = cc in omega (arith, j.most)

-- a refusal of a damaged capture has one of the numbers 7 to 10
pub rejected-number : {A : Type 0} (n : ℕ) → Rejected {A = A} (refused n) → (7 ≤ n) × (n ≤ 10)
rejected-number n j = let f = j.refusal in let z : n ≡ j.number = cc in omega (arith, j.least, j.most)

value-kept : (v : ℕ) (extended : Bool) → Rejected (reply_of v extended) → ⊥
value-kept v extended = sound-kept (reply_of v extended) (value-sound v extended)

-- ---- captures of s samples a bit

module _ (s : ℕ) (pos : 0 < s) (samples : List ℕ) (mask : ℕ) (extended : Bool) where
  -- A capture that renders w reads as w does. Only if w does not decode, it may read as no reply.
  pub rendered-reply : (w : ℕ) → Renders s (levels mask samples) w
      → (sampled_reply s samples mask extended ≡ word_reply w extended)
      ⊎ ((sampled_reply s samples mask extended ≡ refused no_reply) × (decode_word w ≡ refused invalid_symbol))
  unfolding sampled_reply transitions_of
  rendered-reply w r =
      ⊎_elim
      (λ e. inl (ap (λ (t : Answer ℕ). and_then t (λ x. word_reply x extended)) e))
      (λ q. inr (ap (λ (t : Answer ℕ). and_then t (λ x. word_reply x extended)) q.0, ends-in-zeros w q.1))
      (rendered-read s pos (levels mask samples) w r)

  value-again : (v : ℕ) → reply_of (v % 4096) extended ≡ reply_of v extended
  unfolding reply_of
  value-again v = rw (mod-mod v 4096)

  -- 1: a capture that renders the reply word of a value reads as that value
  pub reply-reads : (v : ℕ) → Renders s (levels mask samples) (reply_word v) → sampled_reply s samples mask extended ≡ reply_of v extended
  unfolding word_reply
  reply-reads v r =
      ⊎_elim
      (λ e. e ∙ ap (λ (d : Answer ℕ). and_then d (λ x. reply_of x extended)) (decode-reply v) ∙ value-again v)
      (λ q. absurd (not-both (decode-reply v) q.1))
      (rendered-reply (reply_word v) r)

  -- what does not decode is refused
  undecoded-refused : (w : ℕ) → Renders s (levels mask samples) w → Undecoded (decode_word w) → Rejected (sampled_reply s samples mask extended)
  unfolding word_reply
  undecoded-refused w r u =
      ⊎_elim
      (λ e. ⊎_elim (λ d. with_number 9 (e ∙ ap (λ (x : Answer ℕ). and_then x (λ y. reply_of y extended)) d) (lit≤ tt) (lit≤ tt))
      (λ d. with_number 10 (e ∙ ap (λ (x : Answer ℕ). and_then x (λ y. reply_of y extended)) d) (lit≤ tt) (lit≤ tt)) u)
      (λ q. with_number 7 q.0 (lit≤ tt) (lit≤ tt))
      (rendered-reply w r)
    where
      with_number : (n : ℕ) → sampled_reply s samples mask extended ≡ refused n → 7 ≤ n → n ≤ 10 → Rejected (sampled_reply s samples mask extended)
      with_number n e l m = record { number = n; refusal = e; least = omega arith; most = omega arith }

  -- 2: a capture that renders a reply word with one symbol damaged is refused
  pub damage-refused : (v w' p : ℕ) → Damaged (reply_word v) w' p → Renders s (levels mask samples) w' → Rejected (sampled_reply s samples mask extended)
  damage-refused v w' p d r = undecoded-refused w' r (damaged v w' p d)

  no_word : (x w' : ℕ) → w' ≡ reply_word x → Undecoded (decode_word w') → ⊥
  no_word x w' e (inl u) = not-both (ap decode_word e ∙ decode-reply x) u
  no_word x w' e (inr u) = not-both (ap decode_word e ∙ decode-reply x) u

  -- 3: A capture renders a reply word with one edge moved by one bit. It is taken exactly if two neighbouring nibbles turn.
  pub moved-edge : (v w' i j : ℕ) → Moved (reply_word v) w' i j → Renders s (levels mask samples) w' → MovedEdge v w' extended (sampled_reply s samples mask extended)
  moved-edge v w' i j m r = ⊎_elim (λ t. when-turned t.0 t.1) (λ n. when-not n.0 n.1) (moved-decode v w' i j m)
    where
      when-turned : Turned (reply_word v) w' → Formed v (word_value w') w' → MovedEdge v w' extended (sampled_reply s samples mask extended)
      when-turned t f =
          let e = reply-reads (word_value w') (subst (λ (w : ℕ). Renders s (levels mask samples) w) f.word r) in record {
            taken = λ u. (f, e);
            refusal = λ n. absurd (n t);
            only_taken = λ n. t;
            only_refused = λ j u. value-kept (word_value w') extended (subst Rejected e j);
          }

      when-not : (Turned (reply_word v) w' → ⊥) → Undecoded (decode_word w') → MovedEdge v w' extended (sampled_reply s samples mask extended)
      when-not n u =
          let rejected = undecoded-refused w' r u in record {
            taken = λ t. absurd (n t);
            refusal = λ k. (rejected, λ x e. no_word x w' e u);
            only_taken = λ k. absurd (k rejected);
            only_refused = λ j t. n t;
          }
