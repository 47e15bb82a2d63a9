-- Lists of exported calls that differ only in one lane's captures may have any calls, whether or not slices fit. They may have any window and mask of
-- that lane, as they stand in the slices. A definition that left some of these out would not prove this.
-- Assumes nothing.
use mathlib.Core.Path.{◌≡◌, refl, ap, subst}
use mathlib.Core.Bool.{Bool, true, false}
use mathlib.Core.List.{List, [], ◌∷◌, ◌++◌, map}
use Prim.Native.Nat.{ℕ, zero, suc, ◌+◌, ◌*◌, ◌<◌, ◌≤◌}
use native.Mathlib.Omega.{arith}
use native.Mathlib.Decide.{dec_lt}
use lib.ListN.{length, get_or}
use Rattle.dshot_bank_spec.specs.State.{Buffers}
use Rattle.dshot_bank_spec.specs.Calls.{Call, service_call}
use Rattle.dshot_bank_spec.specs.Hide.{CallByCall, none_left, one_more, CapturesAlike, Alike, captured, WireAlike, wired}
use Rattle.dshot_bank_spec.proofs.AlikeInhabited.{example-alike, example-wired, list_at}
use Rattle.bank_slots_spec.specs.Load.{flag, four}
use Rattle.bank_slots_spec.specs.Arguments.{taken, present, masks}
use Rattle.bank_slots_spec.specs.SlotLists.{Made, MadeByMade, both_end, both_more, MadeAlike, MadeWireAlike}

-- ---- lists

module _ (R : Call → Call → Type 0) (r : (c : Call) → R c c) where
  same-list : (ms : List Made) → MadeByMade R ms ms
  same-list [] = both_end
  same-list (m ∷ ms) = both_more (r m.call) (same-list ms)

  after_same : (ms : List Made) {ks ks' : List Made} → MadeByMade R ks ks' → MadeByMade R (ms ++ ks) (ms ++ ks')
  after_same [] h = h
  after_same (m ∷ ms) h = both_more (r m.call) (after_same ms h)

  -- any calls before, between and after two whose bank's calls are related, whether or not their slices fit
  pub made-any : (before between after : List Made) (fits fits' : Bool) (out out' : List ℕ) {c c' d d' : Call} → R c c' → R d d'
      → MadeByMade R
      (before ++ (record { fits = fits; call = c; out = out } ∷ (between ++ (record { fits = fits'; call = d; out = out' } ∷ after))))
      (before ++ (record { fits = fits; call = c'; out = out } ∷ (between ++ (record { fits = fits'; call = d'; out = out' } ∷ after))))
  made-any before between after fits fits' out out' h k = after_same before (both_more h (after_same between (both_more k (same-list after))))

-- calls of the bank as calls from C
abbrev from_c : Bool → List ℕ → List Call → List Made
from_c fits out cs = map (λ (c : Call). record { fits = fits; call = c; out = out }) cs

made_each : {R : Call → Call → Type 0} (fits : Bool) (out : List ℕ) {cs cs' : List Call} → CallByCall R cs cs'
    → MadeByMade R (from_c fits out cs) (from_c fits out cs')
made_each fits out none_left = both_end
made_each fits out (one_more h rest) = both_more h (made_each fits out rest)

-- For each of the four lanes: two lists in which its mask and all samples of its window differ. A refused call, looks and a lending are among the
-- calls.
pub made-example : (lane : ℕ) (l : lane < 4) (fits : Bool) (out : List ℕ) (b : Buffers)
    → MadeAlike lane (from_c fits out (list_at 4 lane l b true 0)) (from_c fits out (list_at 4 lane l b true 2))
made-example lane l fits out b = made_each fits out (example-alike 4 lane l b)

-- and in which its captures are present in the one, and absent in the other
pub made-wired-example : (lane : ℕ) (l : lane < 4) (fits : Bool) (out : List ℕ) (b : Buffers)
    → MadeWireAlike lane (from_c fits out (list_at 4 lane l b true 0)) (from_c fits out (list_at 4 lane l b false 2))
made-wired-example lane l fits out b = made_each fits out (example-wired 4 lane l b)

-- ---- slices

-- four of something, the same but at one place
four-but : {A : Type 0} (d : A) (f g : ℕ → A) (lane : ℕ) → ((k : ℕ) → k < 4 → (k ≡ lane → ⊥) → f k ≡ g k)
    → (i : ℕ) → (i ≡ lane → ⊥) → get_or (four f) i d ≡ get_or (four g) i d
four-but d f g lane h zero ne = h 0 (omega arith) ne
four-but d f g lane h (suc zero) ne = h 1 (omega arith) ne
four-but d f g lane h (suc (suc zero)) ne = h 2 (omega arith) ne
four-but d f g lane h (suc (suc (suc zero))) ne = h 3 (omega arith) ne
four-but d f g lane h (suc (suc (suc (suc i)))) ne = refl

four_same : {A : Type 0} (f g : ℕ → A) → ((k : ℕ) → k < 4 → f k ≡ g k) → four f ≡ four g
four_same f g h = λ j. h 0 (omega arith) j ∷ h 1 (omega arith) j ∷ h 2 (omega arith) j ∷ h 3 (omega arith) j ∷ []

-- Two services from C. Their slices of the hardware's answers differ only in the lane's capture and mask. Their samples differ only in the lane's
-- window, whatever it holds.
module _ (lane : ℕ) (l : lane < 4) (now : ℕ) (xs xs' s s' : List ℕ)
    (h : (i : ℕ) → (i ≡ 4 + lane → ⊥) → (i ≡ 8 + lane → ⊥) → get_or xs i 0 ≡ get_or xs' i 0)
    (el : length s ≡ length s')
    (lo : (i : ℕ) → i < 160 * lane → get_or s i 0 ≡ get_or s' i 0)
    (hi : (i : ℕ) → 160 * lane + 160 ≤ i → get_or s i 0 ≡ get_or s' i 0) where
  abbrev served : List ℕ → List ℕ → Call
  served ys u = service_call now (taken ys) (present ys) (masks ys) u

  captures : CapturesAlike lane (masks xs) (masks xs') s s'
  captures = record {
    long = el;
    before = λ i b. lo i (omega arith);
    after = λ i b. hi i (omega arith);
    masks = λ i ne.
        four-but 0 (λ (k : ℕ). get_or xs (8 + k) 0) (λ (k : ℕ). get_or xs' (8 + k) 0) lane (λ k b q. h (8 + k) (omega arith) (omega arith)) i (omega arith);
  }

  -- the flag in slot k
  abbrev Flagged : ℕ → Type 0
  Flagged k = flag (get_or xs k 0) ≡ flag (get_or xs' k 0)

  took : taken xs ≡ taken xs'
  took = four_same (λ (k : ℕ). flag (get_or xs k 0)) (λ (k : ℕ). flag (get_or xs' k 0)) (λ k b. ap flag (h k (omega arith) (omega arith)))

  shown : (k : ℕ) → k < 4 → (k ≡ lane → ⊥) → Flagged (4 + k)
  shown k b ne = ap flag (h (4 + k) (omega arith) (omega arith))

  pub slices-wired : WireAlike lane (served xs s) (served xs' s')
  slices-wired =
      subst (λ (t : List Bool). WireAlike lane (served xs s) (service_call now t (present xs') (masks xs') s')) took
      (wired now (taken xs)
      (λ i ne. four-but false (λ (k : ℕ). flag (get_or xs (4 + k) 0)) (λ (k : ℕ). flag (get_or xs' (4 + k) 0)) lane shown i (omega arith)) captures)

  -- If the lane's capture is present in both or in neither, they are alike in document 01's sense.
  pub slices-alike : Flagged (4 + lane) → Alike lane (served xs s) (served xs' s')
  slices-alike e =
      subst (λ (t : List Bool). Alike lane (served xs s) (service_call now t (present xs') (masks xs') s')) took
      (subst (λ (p : List Bool). Alike lane (served xs s) (service_call now (taken xs) p (masks xs') s'))
      (four_same (λ (k : ℕ). flag (get_or xs (4 + k) 0)) (λ (k : ℕ). flag (get_or xs' (4 + k) 0)) (λ k b. side k b (dec_lt k lane) (dec_lt lane k)))
      (captured now (taken xs) (present xs) captures))
    where
      side : (k : ℕ) → k < 4 → Dec (k < lane) → Dec (lane < k) → Flagged (4 + k)
      side k b (yes p) d = shown k b (omega arith)
      side k b (no p) (yes q) = shown k b (omega arith)
      side k b (no p) (no q) = let i : lane ≡ k = omega arith in subst (λ (m : ℕ). Flagged (4 + m)) i e
