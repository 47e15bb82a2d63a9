-- Lists that differ only in one lane's captures may have any calls, and any window and mask of that lane. A definition of "alike" that left some of
-- these out would not prove this.
-- Assumes nothing.
use Rattle.std.specs.Prelude.{if◌then◌else◌}
use mathlib.Core.Path.{◌≡◌, ◌∙◌, refl, sym, ap}
use Prim.Native.Nat.{ℕ, zero, suc, ◌+◌, ◌-◌, ◌*◌, ◌<◌, ◌≤◌}
use mathlib.Core.Bool.{Bool, true, false}
use mathlib.Core.List.{List, [], ◌∷◌, ◌++◌, append_assoc}
use native.Mathlib.Omega.{arith}
use lib.ListN.{length, get_or, take, replicate, length-append, length-replicate, get_or-replicate, get_or-append}
use lib.Seq.{get_or-append-add, get_or_at, take_at, drop_at}
use borrow.Author.Tests.{le-ltb}
use Rattle.dshot_reply_spec.specs.Refusals.{no_such_motor}
use Rattle.dshot_bank_spec.specs.State.{Buffers}
use Rattle.dshot_bank_spec.specs.Replies.{window}
use Rattle.dshot_bank_spec.specs.Calls.{Call, request_telemetry_call, service_call, on_dma_interrupt_call, take_replies, is_faulted, reply_stats, sending, lend, State, act}
use Rattle.dshot_bank_spec.specs.Steps.{port_refusal, refuse_or, step}
use Rattle.dshot_bank_spec.specs.Lists.{is_refused}
use Rattle.dshot_bank_spec.specs.Hide.{CapturesAlike, Alike, same, captured, CallByCall, none_left, one_more, AlikeAll, WireAlike, same_wired, wired, WireAlikeAll}

-- ---- lists that differ at one place, or in one part

-- beside the entry after `left`
beside : {A : Type 0} (d x y : A) (left right : List A) (i : ℕ) → (i ≡ length left → ⊥) → get_or (left ++ (x ∷ right)) i d ≡ get_or (left ++ (y ∷ right)) i d
beside d x y [] right zero h = absurd (h refl)
beside d x y [] right (suc i) h = refl
beside d x y (a ∷ left) right zero h = refl
beside d x y (a ∷ left) right (suc i) h = beside d x y left right i (λ e. h (ap suc e))

-- before a part
ahead : (front t t' : List ℕ) (i : ℕ) → i < length front → get_or (front ++ t) i 0 ≡ get_or (front ++ t') i 0
ahead front t t' i l = get_or-append front t 0 i l ∙ sym (get_or-append front t' 0 i l)

-- behind it
behind : (x x' back : List ℕ) (i : ℕ) → length x ≡ length x' → length x ≤ i → get_or (x ++ back) i 0 ≡ get_or (x' ++ back) i 0
behind x x' back i e l = at x (omega arith) ∙ ap (λ (n : ℕ). get_or back (i - n) 0) e ∙ sym (at x' (omega arith))
  where
    at : (y : List ℕ) → length y ≤ i → get_or (y ++ back) i 0 ≡ get_or back (i - length y) 0
    at y h = ap (λ (n : ℕ). get_or (y ++ back) n 0) (omega arith) ∙ get_or-append-add y back (i - length y) 0

-- ---- services

module _ (lane : ℕ) (front back left right : List ℕ) (ef : length front ≡ 160 * lane) (el : length left ≡ lane) where
  -- the samples with a window, and the masks with one
  abbrev samples_of : List ℕ → List ℕ
  samples_of w = front ++ (w ++ back)

  abbrev masks_of : ℕ → List ℕ
  masks_of k = left ++ (k ∷ right)

  module _ (w w' : List ℕ) (k k' : ℕ) (ew : length w ≡ 160) (ew' : length w' ≡ 160) where
    after-window : (i : ℕ) → 160 * lane + 160 ≤ i → get_or (samples_of w) i 0 ≡ get_or (samples_of w') i 0
    after-window i l =
        ap (λ (x : List ℕ). get_or x i 0) (sym (append_assoc front w back))
        ∙ behind (front ++ w) (front ++ w') back i (simp length-append (omega arith)) (simp length-append (omega arith))
        ∙ ap (λ (x : List ℕ). get_or x i 0) (append_assoc front w' back)

    -- any two windows of 160 samples, and any two masks
    pub captures-any : CapturesAlike lane (masks_of k) (masks_of k') (samples_of w) (samples_of w')
    captures-any = record {
      long = simp length-append (omega arith);
      before = λ i l. ahead front (w ++ back) (w' ++ back) i (omega arith);
      after = λ i l. after-window i (omega arith);
      masks = λ i ne. beside 0 k k' left right i (omega arith);
    }

    pub service-any : (now : ℕ) (taken present : List Bool)
        → Alike lane (service_call now taken present (masks_of k) (samples_of w)) (service_call now taken present (masks_of k') (samples_of w'))
    service-any now taken present = captured now taken present captures-any

    -- and any two answers to whether the capture is present
    pub wire-any : (now : ℕ) (taken others rest : List Bool) (b b' : Bool) → length others ≡ lane
        → WireAlike lane (service_call now taken (others ++ (b ∷ rest)) (masks_of k) (samples_of w))
        (service_call now taken (others ++ (b' ∷ rest)) (masks_of k') (samples_of w'))
    wire-any now taken others rest b b' eo = wired now taken (λ i ne. beside false b b' others rest i (omega arith)) captures-any

-- ---- lists

-- any calls before, between and after two that are related
module _ (R : Call → Call → Type 0) (r : (c : Call) → R c c) where
  same-list : (cs : List Call) → CallByCall R cs cs
  same-list [] = none_left
  same-list (c ∷ cs) = one_more (r c) (same-list cs)

  after_same : (cs : List Call) {ds ds' : List Call} → CallByCall R ds ds' → CallByCall R (cs ++ ds) (cs ++ ds')
  after_same [] h = h
  after_same (c ∷ cs) h = one_more (r c) (after_same cs h)

  pub list_any : (before between after : List Call) {c c' d d' : Call} → R c c' → R d d'
      → CallByCall R (before ++ (c ∷ (between ++ (d ∷ after)))) (before ++ (c' ∷ (between ++ (d' ∷ after))))
  list_any before between after h k = after_same before (one_more h (after_same between (one_more k (same-list after))))

-- ---- one such pair of lists, for every count of lanes

module _ (n lane : ℕ) (l : lane < n) where
  -- x for each lane but this one, which has y
  abbrev pub but_one : {A : Type 0} → A → A → List A
  but_one x y = replicate lane x ++ (y ∷ replicate (n - lane - 1) x)

  -- every sample of the lane's window is v, and every other 1
  abbrev pub front : List ℕ
  front = replicate (160 * lane) 1

  abbrev pub back : List ℕ
  back = replicate (160 * (n - lane - 1)) 1

  abbrev pub samples_at : ℕ → List ℕ
  samples_at v = front ++ (replicate 160 v ++ back)

  -- and so are the masks
  abbrev pub masks_at : ℕ → List ℕ
  masks_at v = but_one 1 v

  -- every capture is present; if b is false, the lane's is not
  abbrev pub service_at : Bool → ℕ → Call
  service_at b v = service_call 0 (replicate n true) (but_one true b) (masks_at v) (samples_at v)

  -- a refused call, looks, a lending, and calls that act
  abbrev pub between : Buffers → List Call
  between b = request_telemetry_call n ∷ is_faulted ∷ reply_stats ∷ sending lane ∷ lend b ∷ on_dma_interrupt_call lane true false true true ∷ take_replies ∷ []

  -- with a service before and behind
  abbrev pub list_at : Buffers → Bool → ℕ → List Call
  list_at buffers b v = service_at b v ∷ (between buffers ++ (service_at b v ∷ []))

  pub example-alike : (buffers : Buffers) → AlikeAll lane (list_at buffers true 0) (list_at buffers true 2)
  example-alike buffers = list_any (Alike lane) same [] (between buffers) [] pair pair
    where
      pair : Alike lane (service_at true 0) (service_at true 2)
      pair =
          service-any lane front back (replicate lane 1) (replicate (n - lane - 1) 1) (length-replicate (160 * lane) 1) (length-replicate lane 1)
          (replicate 160 0) (replicate 160 2) 0 2 refl refl 0 (replicate n true) (but_one true true)

  -- the lane's captures are present in the one list, and absent in the other
  pub example-wired : (buffers : Buffers) → WireAlikeAll lane (list_at buffers true 0) (list_at buffers false 2)
  example-wired buffers = list_any (WireAlike lane) same_wired [] (between buffers) [] pair pair
    where
      pair : WireAlike lane (service_at true 0) (service_at false 2)
      pair =
          wire-any lane front back (replicate lane 1) (replicate (n - lane - 1) 1) (length-replicate (160 * lane) 1) (length-replicate lane 1)
          (replicate 160 0) (replicate 160 2) 0 2 refl refl 0 (replicate n true)
          (replicate lane true) (replicate (n - lane - 1) true) true false (length-replicate lane true)

  -- its captures have the right length
  pub example-long : (v : ℕ) → length (samples_at v) ≡ 160 * n
  example-long v = simp (length-append, length-replicate) (omega arith)

  -- all of the window's samples differ
  pub example-differs : (i : ℕ) → i < 160 → get_or (window (samples_at 0) lane) i 0 ≡ get_or (window (samples_at 2) lane) i 0 → ⊥
  example-differs i h e = let z : ◌≡◌ {A = ℕ} 0 2 = sym (is 0) ∙ e ∙ is 2 in omega arith
    where
      is : (v : ℕ) → get_or (window (samples_at v) lane) i 0 ≡ v
      is v =
          ap (λ (x : List ℕ). get_or (take 160 x) i 0) (drop_at front (replicate 160 v ++ back) (160 * lane) (length-replicate (160 * lane) 1))
          ∙ ap (λ (x : List ℕ). get_or x i 0) (take_at (replicate 160 v) back 160 (length-replicate 160 v))
          ∙ get_or-replicate 160 i v 0 h

  -- and the masks
  pub example-masks : get_or (masks_at 0) lane 0 ≡ get_or (masks_at 2) lane 0 → ⊥
  example-masks e = let z : ◌≡◌ {A = ℕ} 0 2 = sym (is 0) ∙ e ∙ is 2 in omega arith
    where
      is : (v : ℕ) → get_or (masks_at v) lane 0 ≡ v
      is v = get_or_at (replicate lane 1) v (replicate (n - lane - 1) 1) 0 lane (length-replicate lane 1)

  -- there is no lane n
  pub example-refused : (s : State) → is_refused (step n s (request_telemetry_call n)).answer ≡ true
  unfolding step port_refusal
  example-refused s =
      ap (λ (t : Bool). is_refused (refuse_or s (if t then 0 else no_such_motor) (act n s (request_telemetry_call n))).answer) (le-ltb n n (omega arith))
