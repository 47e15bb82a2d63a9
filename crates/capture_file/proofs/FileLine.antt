-- The line of a file fits 29 bytes. If the file was written, it is the line of its capture. Any other file has `refused 17`. Document 01's example
-- runs from the simulated ESC through the file to the line.
-- Assumes nothing.
use mathlib.Core.Logic.{⊎_elim}
use mathlib.Core.Path.{◌≡◌, refl, sym, ap, ◌∙◌, subst}
use mathlib.Core.Bool.{Bool, true, false}
use mathlib.Core.List.{List, [], ◌∷◌, map}
use Prim.Native.Nat.{ℕ, zero, suc, ◌+◌, ◌-◌, ◌%◌, ◌≤◌, ◌<◌}
use native.Mathlib.Omega.{arith}
use lib.Dec.{eqb, ltb, lit<, lit≤}
use lib.ListN.{length, take, replicate, length-append, length-replicate}
use lib.Seq.{length-take-le, take_all}
use Rattle.dshot_reply_spec.proofs.Cases.{lt-or-ge}
use Rattle.dshot_reply_spec.proofs.Simulated.{simulated-written, simulated-length}
use Rattle.dshot_reply_spec.specs.Answer.{Answer, given, refused, and_then}
use Rattle.dshot_reply_spec.specs.Gcr.{reply_word}
use Rattle.dshot_reply_spec.specs.Simulate.{level_sample, simulated, word_levels, word_samples}
use Rattle.capture_file.specs.File.{file_samples, file_bytes, Capture, capture, UpTo, Valid, file_of, read_file}
use Rattle.capture_file.specs.Line.{listed_value, ascii, digit, decimal_within, line_of, padded}
use Rattle.capture_file.specs.declared.line.Line.{Line}
use Rattle.capture_file.specs.Listing.{listed_capture, file_line}
use Rattle.dshot_reply_spec.proofs.Given.{second-given}
use Rattle.capture_file.proofs.AnswerLaws.{same-given}
use Rattle.capture_file.proofs.LineLaws.{line-fits}
use Rattle.capture_file.proofs.Listing.{simulated-listed, document-line}
use Rattle.capture_file.proofs.Theorems.{written-reads, read-written, longest, only-refusal}

-- the line of a file is that of what it reads as
line-of-read : (bytes : List ℕ) (a : Answer Capture) → read_file bytes ≡ a → file_line bytes ≡ line_of (and_then a listed_capture)
unfolding file_line
line-of-read bytes a e = ap (λ (x : Answer Capture). line_of (and_then x listed_capture)) e

pub written-line : (c : Capture) → Valid c → file_line (file_of c) ≡ line_of (listed_capture c)
written-line c v = line-of-read (file_of c) (given c) (written-reads c v)

pub refused-line : (bytes : List ℕ) (n : ℕ) → read_file bytes ≡ refused n → file_line bytes ≡ ascii "refused 17\n"
unfolding line_of digit decimal_within
refused-line bytes n e = line-of-read bytes (refused n) e ∙ ap (λ (k : ℕ). line_of (refused k)) (only-refusal bytes n e)

pub file-line-fits : (bytes : List ℕ) → length (file_line bytes) ≤ 29
unfolding file_line
file-line-fits bytes = line-fits (and_then (read_file bytes) listed_capture)

-- as the code hands it out
pub file-line-room : (bytes : List ℕ) (r : Line) → r ≡ padded (file_line bytes) → (r.length ≤ 29) × (length r.bytes ≡ 32)
file-line-room bytes r e =
    let l = file_line bytes in
    let fits = file-line-fits bytes in
    let room = length-append l (replicate (32 - length l) 0) in (
      omega (arith, ap (λ (x : Line). x.length) e),
      ap (λ (x : Line). length x.bytes) e ∙ omega (arith, room, length-replicate {A = ℕ} (32 - length l) 0),
    )

-- ---- more bytes than the longest file has

pub too_long : (bytes : List ℕ) → UpTo 255 bytes → file_bytes < length bytes → file_line bytes ≡ ascii "refused 17\n"
too_long bytes u h = go (read_file bytes) refl
  where
    go : (a : Answer Capture) → read_file bytes ≡ a → file_line bytes ≡ ascii "refused 17\n"
    go (given c) e = let w = read-written bytes c u e in absurd (omega (arith, ap length w.0, longest c w.1))
    go (refused n) e = refused-line bytes n e

up-to-take : (k n : ℕ) (xs : List ℕ) → UpTo k xs → UpTo k (take n xs)
up-to-take k zero xs u = tt
up-to-take k (suc n) [] u = tt
up-to-take k (suc n) (x ∷ xs) u = (u.0, up-to-take k n xs u.1)

-- so a buffer that has room for more than the longest file shows the line of a longer input too
pub cut_off : (bytes : List ℕ) (n : ℕ) → UpTo 255 bytes → file_bytes < n → file_line (take n bytes) ≡ file_line bytes
cut_off bytes n u h =
    ⊎_elim
    (λ l. too_long (take n bytes) (up-to-take 255 n bytes u) (omega (arith, length-take-le n bytes (omega arith))) ∙ sym (too_long bytes u (omega arith)))
    (λ g. ap file_line (take_all n bytes g))
    (lt-or-ge n (length bytes))

-- ---- what the simulated ESC writes

-- a sample is the mask or 0
levels-fit : (m : ℕ) (ls : List Bool) → m ≤ 65535 → UpTo 65535 (map (level_sample m) ls)
levels-fit m [] h = tt
levels-fit m (true ∷ ls) h = (h, levels-fit m ls h)
levels-fit m (false ∷ ls) h = (lit≤ tt, levels-fit m ls h)

word_fits : (w lead mask n : ℕ) → mask ≤ 65535 → UpTo 65535 (word_samples 3 w lead mask n)
unfolding word_samples
word_fits w lead mask n h = levels-fit mask (word_levels 3 w lead (n - lead - 63)) h

module _ (out : List ℕ) (v lead mask : ℕ) (extended : Bool) (l : List ℕ) (e : simulated 3 out v lead mask ≡ given l) (m : mask ≤ 65535) where
  samples-fit : UpTo 65535 l
  unfolding simulated
  samples-fit =
      let p = second-given _ (ltb (length out) (lead + 69)) e in
      let q = second-given _ (eqb mask 0) p.1 in
      subst (UpTo 65535) (same-given q.1) (word_fits (reply_word v) lead mask (length out) m)

  -- a file holds what is written into a buffer that has not too many slots
  pub simulated-valid : length out ≤ file_samples → Valid (capture mask extended l)
  simulated-valid h = record {
    pins = m;
    count = omega (arith, simulated-length 3 (lit< tt) out v lead mask l e);
    each = samples-fit;
  }

  pub simulated-line : length out ≤ file_samples
      → file_line (file_of (capture mask extended l)) ≡ line_of (listed_value (reply_word v) (v % 4096) extended)
  unfolding listed_capture
  simulated-line h = written-line (capture mask extended l) (simulated-valid h) ∙ ap line_of (simulated-listed out v lead mask l extended e)

-- document 01's line, of the file of the 160 samples that it names
pub document-file : (out : List ℕ) → length out ≡ 160
    → (l : List ℕ) × (simulated 3 out 0xfff 10 1 ≡ given l) × (file_line (file_of (capture 1 false l)) ≡ ascii "17bdf9 fff erpm 0\n")
unfolding listed_capture
document-file out h =
    let l = word_samples 3 (reply_word 0xfff) 10 1 (length out) in
    let e : simulated 3 out 0xfff 10 1 ≡ given l = simulated-written 3 (lit< tt) out 0xfff 10 1 (omega arith) (λ z. omega (arith, z)) in
    let v = simulated-valid out 0xfff 10 1 false l e (lit≤ tt) (omega arith) in
    (l, e, written-line (capture 1 false l) v ∙ document-line out l e)
