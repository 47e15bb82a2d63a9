-- Steps on the slots of a bank: rows that are written, one step after another, and what a step leaves if a test picks it.
-- Assumes nothing.
use mathlib.Core.Path.{◌≡◌, ◌∙◌, sym, ap, subst}
use mathlib.Core.Bool.{true}
use mathlib.Core.List.{List}
use Prim.Native.Nat.{ℕ, ◌+◌, ◌*◌, ◌/◌, ◌%◌}
use lib.ListN.{length}
use Rattle.dshot_bank_spec.specs.State.{Stats, Core, Bank}
use Rattle.dshot_bank_spec.specs.With.{with_stats}
use Rattle.dshot_bank_spec.specs.Replies.{wrapping_add}
use Rattle.bank_slots_spec.specs.Memory.{Row, at, write, over, within, word, word_rows}
use Rattle.bank_slots_spec.specs.Places.{slots}
use Rattle.bank_slots_spec.specs.Load.{stats_at, bank_at, load}
use Rattle.bank_slots_spec.specs.Written.{WrittenAt, Written}
use Rattle.bank_slots_spec.specs.Moves.{Moves, on_core}
use Rattle.bank_slots_spec.specs.Parts.{bumped}
use Rattle.bank_slots_spec.proofs.MemoryLaws.{at-write, word_back}

-- rows written: what the bank in the slots is then, and what is written
pub moves-write : {f : Bank → Bank} (rows : List Row) (xs : List ℕ) → length xs ≡ slots → within rows slots ≡ true
    → bank_at (over rows (at xs)) ≡ f (bank_at (at xs))
    → (WrittenAt (at xs) → WrittenAt (over rows (at xs)))
    → Moves f xs (write rows xs)
unfolding load Written
moves-write {f} rows xs n h e w =
    let o = at-write rows xs (subst (λ (k : ℕ). within rows k ≡ true) (sym n) h) in
    record { loads = ap bank_at o ∙ e; keeps = λ p. subst WrittenAt (sym o) (w p) }

-- the same if an equation gives the slots after the step
pub moves-by : {f : Bank → Bank} {ys : List ℕ} (rows : List Row) (xs : List ℕ) → ys ≡ write rows xs → length xs ≡ slots → within rows slots ≡ true
    → bank_at (over rows (at xs)) ≡ f (bank_at (at xs))
    → (WrittenAt (at xs) → WrittenAt (over rows (at xs)))
    → Moves f xs ys
moves-by {f} rows xs q n h e w = subst (λ (l : List ℕ). Moves f xs l) (sym q) (moves-write rows xs n h e w)

pub stays : {f : Bank → Bank} {xs : List ℕ} → load xs ≡ f (load xs) → Moves f xs xs
stays e = record { loads = e; keeps = λ p. p }

-- one step after another
pub moves-then : {f g : Bank → Bank} {xs ys zs : List ℕ} → Moves f xs ys → Moves g ys zs → Moves (λ (b : Bank). g (f b)) xs zs
moves-then {f} {g} p q = record { loads = q.loads ∙ ap g p.loads; keeps = λ w. q.keeps (p.keeps w) }

-- another name of the step, at the bank that it starts from
pub moves-as : {f g : Bank → Bank} {xs ys : List ℕ} → Moves f xs ys → f (load xs) ≡ g (load xs) → Moves g xs ys
moves-as p e = record { loads = p.loads ∙ e; keeps = p.keeps }

-- slots that are known by an equation
pub moves-at : {f : Bank → Bank} {xs ys zs : List ℕ} → ys ≡ zs → Moves f xs ys → Moves f xs zs
moves-at {f} {xs} e m = subst (λ (l : List ℕ). Moves f xs l) e m

-- one more in a count: of the slot k, which holds the count, and its setter
pub counted : (xs : List ℕ) → length xs ≡ slots → (k : ℕ) (set : ℕ → Stats → Stats) (count : Stats → ℕ) → within (word_rows k 0) slots ≡ true
    → ((v : ℕ) → bank_at (over (word_rows k v) (at xs)) ≡ on_core (λ (c : Core). with_stats (set (v / 65536 * 65536 + v % 65536) c.stats) c) (bank_at (at xs)))
    → count (stats_at (at xs)) ≡ word k (at xs)
    → (WrittenAt (at xs) → WrittenAt (over (word_rows k (wrapping_add (word k (at xs)))) (at xs)))
    → Moves (on_core (λ (c : Core). with_stats (set (wrapping_add (count c.stats)) c.stats) c)) xs (bumped k xs)
counted xs n k set count h e q w =
    let v = wrapping_add (word k (at xs)) in
    moves-write (word_rows k v) xs n h (e v ∙ ap (λ (x : ℕ). on_core (λ (c : Core). with_stats (set x c.stats) c) (bank_at (at xs))) (word_back v ∙ ap wrapping_add (sym q))) w
