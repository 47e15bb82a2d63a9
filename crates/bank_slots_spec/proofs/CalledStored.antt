-- A call on slots that the library wrote. Every slot after it is what would be written for the bank after its step. That bank fits again.
-- Assumes nothing.
use mathlib.Core.Path.{◌≡◌, ◌∙◌, ap, subst}
use mathlib.Core.Bool.{Bool}
use mathlib.Core.List.{List}
use Prim.Native.Nat.{ℕ}
use lib.ListN.{length}
use Rattle.dshot_bank_spec.specs.State.{Bank, Buffers}
use Rattle.dshot_bank_spec.specs.Calls.{Call}
use Rattle.bank_slots_spec.specs.Places.{slots}
use Rattle.bank_slots_spec.specs.Load.{load}
use Rattle.bank_slots_spec.specs.Store.{store}
use Rattle.bank_slots_spec.specs.Storable.{Storable, Below}
use Rattle.bank_slots_spec.specs.Called.{Called, bank_after}
use Rattle.bank_slots_spec.proofs.Stored.{load_store, store-written, written-stored, loads-fit}

module _ {fits : Bool} {call : Call} {b : Buffers} (bank : Bank) (h : Storable bank) (ys : List ℕ) {r : ℕ} (c : Called fits call b (store bank) ys r) (n : length ys ≡ slots) (w : Below ys) where
  -- the bank in the slots after the call
  loaded : load ys ≡ bank_after fits (record { bank = bank; buffers = b }) call
  loaded = c.bank ∙ ap (λ (k : Bank). bank_after fits (record { bank = k; buffers = b }) call) (load_store bank h)

  pub called-stored : ys ≡ store (bank_after fits (record { bank = bank; buffers = b }) call)
  called-stored = written-stored ys n w (c.written (store-written bank h)) ∙ ap store loaded

  pub called-fits : Storable (bank_after fits (record { bank = bank; buffers = b }) call)
  called-fits = subst Storable loaded (loads-fit ys w)
