-- A loop over orders gives the list that they stand for.
-- Assumes nothing.
use Rattle.std.specs.Prelude.{Option, Some, None, option_map, if◌then◌else◌}
use Rattle.std.specs.Option.{is_some, option_or}
use Rattle.std.proofs.Common.{◌≡◌, ℕ, zero, suc, ◌-◌, ◌/◌, ◌%◌, ◌<◌, ◌≤◌, List, [], ◌∷◌, ◌++◌, sym, refl, ap, ◌∙◌, arith}
use Rattle.dshot_bank_spec.specs.Order as Spec
use Rattle.dshot_bank.specs.declared.orders.OrderKind.{OrderKind}
use Rattle.dshot_bank.specs.declared.orders.Order.{Order}
use Rattle.dshot_bank.specs.declared.orders.Orders.{Orders}
use Rattle.dshot_bank.specs.Orders.{kind_at, entry_of, first_from, rest_from, first_order, rest_orders, order_of, entry_orders, orders_from, orders_of}

-- an order of a kind, by the lane in its number
abbrev pub in_lane : ℕ → OrderKind → Order
in_lane c kind = record { kind = kind; motor = c % 128 % 8 }

-- ---- one number of a loop

module _ (k c : ℕ) (some : 0 < k) where
  -- a number of no kind is passed over
  pub passed : kind_at (c % 128 / 8) ≡ None → (first_from (k - 1) (c / 128) ≡ first_from k c) × (rest_from (k - 1) (c / 128) ≡ rest_from k c)
  unfolding first_from rest_from
  passed e = at k some
    where
      none : entry_of (c % 128) ≡ None
      none = ap (λ (r : Option OrderKind). option_map (in_lane c) r) e

      at : (i : ℕ) → 0 < i → (first_from (i - 1) (c / 128) ≡ first_from i c) × (rest_from (i - 1) (c / 128) ≡ rest_from i c)
      at zero h = absurd (omega arith)
      at (suc n) h =
          let less : suc n - 1 ≡ n = omega arith in
          let rest : Orders = record { count = n; codes = c / 128 } in (
            ap (λ (i : ℕ). first_from i (c / 128)) less ∙ ap (λ (r : Option Order). option_or r (first_from n (c / 128))) (sym none),
            ap (λ (i : ℕ). rest_from i (c / 128)) less ∙ ap (λ (r : Option Order). if is_some r then rest else rest_from n (c / 128)) (sym none),
          )

  -- a number of a kind is given, and what is above it is left
  pub taken : (kind : OrderKind) → kind_at (c % 128 / 8) ≡ Some kind
      → (Some (in_lane c kind) ≡ first_from k c) × (◌≡◌ {A = Orders} (record { count = k - 1; codes = c / 128 }) (rest_from k c))
  unfolding first_from rest_from
  taken kind e = at k some
    where
      there : entry_of (c % 128) ≡ Some (in_lane c kind)
      there = ap (λ (r : Option OrderKind). option_map (in_lane c) r) e

      at : (i : ℕ) → 0 < i → (Some (in_lane c kind) ≡ first_from i c) × (◌≡◌ {A = Orders} (record { count = i - 1; codes = c / 128 }) (rest_from i c))
      at zero h = absurd (omega arith)
      at (suc n) h =
          let less : suc n - 1 ≡ n = omega arith in
          let rest : Orders = record { count = n; codes = c / 128 } in (
            ap (λ (r : Option Order). option_or r (first_from n (c / 128))) (sym there),
            (λ j. record { count = less j; codes = c / 128 }) ∙ ap (λ (r : Option Order). if is_some r then rest else rest_from n (c / 128)) (sym there),
          )

-- zeros have no order
pub zeros : (k c : ℕ) → c ≤ 0 → (None ≡ first_from k c) × (◌≡◌ {A = Orders} (record { count = 0; codes = c }) (rest_from k c))
unfolding first_from rest_from
zeros k (suc c) h = absurd (omega arith)
zeros zero zero h = (refl, refl)
zeros (suc n) zero h = zeros n zero h

-- no numbers have none either
pub nothing : (k c : ℕ) → k ≤ 0 → (None ≡ first_from k c) × (◌≡◌ {A = Orders} (record { count = 0; codes = c }) (rest_from k c))
unfolding first_from rest_from
nothing zero c h = (refl, refl)
nothing (suc n) c h = absurd (omega arith)

-- ---- the whole loop

-- the first order before the others; nothing without one
abbrev pub looped : List ℕ → Option Order → List Spec.Order → List Spec.Order
looped d None l = []
looped d (Some x) l = order_of d x.kind x.motor ∷ l

loop-from : (d : List ℕ) (n c : ℕ) → orders_from d n c ≡ looped d (first_from n c) (orders_of (rest_from n c) d)
unfolding first_from rest_from orders_of
loop-from d zero c = refl
loop-from d (suc n) c = at (entry_of (c % 128)) (loop-from d n (c / 128))
  where
    at : (r : Option Order)
        → orders_from d n (c / 128) ≡ looped d (first_from n (c / 128)) (orders_of (rest_from n (c / 128)) d)
        → entry_orders d r ++ orders_from d n (c / 128)
        ≡ looped d (option_or r (first_from n (c / 128))) (orders_of (if is_some r then record { count = n; codes = c / 128 } else rest_from n (c / 128)) d)
    at None e = e
    at (Some x) e = refl

-- orders stand for the first of them before those that the rest stand for
pub loop-gives : (o : Orders) (d : List ℕ) → orders_of o d ≡ looped d (first_order o) (orders_of (rest_orders o) d)
unfolding orders_of
loop-gives o d = loop-from d o.count o.codes
