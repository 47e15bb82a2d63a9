-- A function that has a left inverse is injective.
-- Assumes nothing.
use mathlib.Core.Path.{◌≡◌, sym, ap, ◌∙◌}

pub injective : {A B : Type 0} (f : A → B) (back : B → A) → ((a : A) → back (f a) ≡ a) → (a b : A) → f a ≡ f b → a ≡ b
injective f back undone a b e = sym (undone a) ∙ ap back e ∙ undone b
