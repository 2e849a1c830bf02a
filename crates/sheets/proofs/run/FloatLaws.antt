-- Values as floats on a list: what is read where floats were stored, and what stays as it was. Assumes nothing.
use Prim.Native.Nat.{ℕ, zero, suc, ◌+◌, ◌*◌, ◌<◌, ◌≤◌}
use native.Mathlib.Nat.{add-zero, zero-add}
use native.Mathlib.Omega.{arith}
use mathlib.Core.Path.{◌≡◌, refl, sym, ap, ◌∙◌}
use mathlib.Core.List.{List, [], ◌∷◌, ◌++◌, map}
use lib.ListN.{length, set, length-set}
use lib.Seq.{get_or-set_same, get_or-set_other}
use lib.Ieee.{Float, nan}
use Rattle.numbers.specs.declared.Angle.{Angle}
use Rattle.numbers.specs.declared.Length.{Length}
use Rattle.frames.specs.declared.LocalFrame.{LocalFrame}
use Rattle.frames.specs.declared.GeocentricPosition.{GeocentricPosition}
use Rattle.frames.specs.declared.GeodeticPosition.{GeodeticPosition}
use Rattle.frames.specs.declared.LocalVector.{LocalVector}
use Rattle.sheets.specs.declared.Value.{Value}
use Rattle.sheets.specs.declared.Value.TheVariants.{Number, Radians, Metres, Geocentric, Geodetic, Vector, Frame}
use Rattle.sheets.specs.Kinds.{Kind, number, angle, len, geocentric, geodetic, vector, frame, kind_of}
use Rattle.sheets.specs.code.run.Floats.{float_at, vec_at, mat_at, value_at, values_at, Lies, lay, frame_floats, KeptBelow}

-- ---- the kinds of what is read

pub kind-of-at : (k : Kind) (f : List Float) (i : ℕ) → kind_of (value_at k f i) ≡ k
unfolding value_at
kind-of-at number f i = refl
kind-of-at angle f i = refl
kind-of-at len f i = refl
kind-of-at geocentric f i = refl
kind-of-at geodetic f i = refl
kind-of-at (vector o) f i = refl
kind-of-at (frame o) f i = refl

pub kinds-of-at : (ks : List Kind) (f : List Float) (i : ℕ) → map kind_of (values_at ks f i) ≡ ks
unfolding values_at
kinds-of-at [] f i = refl
kinds-of-at (k ∷ ks) f i = rw (kind-of-at k f i, kinds-of-at ks f (i + 21)) refl

-- ---- the same floats, the same value

-- how many floats a value of a kind takes
abbrev width : Kind → ℕ
width number = 1
width angle = 1
width len = 1
width geocentric = 3
width geodetic = 4
width (vector o) = 3
width (frame o) = 21

width-most : (k : Kind) → width k ≤ 21
width-most number = omega arith
width-most angle = omega arith
width-most len = omega arith
width-most geocentric = omega arith
width-most geodetic = omega arith
width-most (vector o) = omega arith
width-most (frame o) = omega arith

module _ (f g : List Float) (i j w : ℕ) (same : (m : ℕ) → m < w → float_at f (i + m) ≡ float_at g (j + m)) where
  same_float : (m p q : ℕ) → m < w → p ≡ i + m → q ≡ j + m → float_at f p ≡ float_at g q
  same_float m p q h a b = rw (a, b) (same m h)

  same-vec : (m p q : ℕ) → m + 2 < w → p ≡ i + m → q ≡ j + m → vec_at f p ≡ vec_at g q
  same-vec m p q h a b = rw (same_float m p q (omega arith) a b, same_float (m + 1) (p + 1) (q + 1) (omega arith) (omega arith) (omega arith), same_float (m + 2) (p + 2) (q + 2) h (omega arith) (omega arith)) refl

  same-mat : (m p q : ℕ) → m + 8 < w → p ≡ i + m → q ≡ j + m → mat_at f p ≡ mat_at g q
  same-mat m p q h a b = rw (same-vec m p q (omega arith) a b, same-vec (m + 3) (p + 3) (q + 3) (omega arith) (omega arith) (omega arith), same-vec (m + 6) (p + 6) (q + 6) (omega arith) (omega arith) (omega arith)) refl

same_first : (k : Kind) (f g : List Float) (i j : ℕ) → ((m : ℕ) → m < width k → float_at f (i + m) ≡ float_at g (j + m)) → value_at k f i ≡ value_at k g j
unfolding value_at
same_first number f g i j s = rw (same_float f g i j 1 s 0 i j (omega arith) (omega arith) (omega arith)) refl
same_first angle f g i j s = rw (same_float f g i j 1 s 0 i j (omega arith) (omega arith) (omega arith)) refl
same_first len f g i j s = rw (same_float f g i j 1 s 0 i j (omega arith) (omega arith) (omega arith)) refl
same_first geocentric f g i j s = rw (same_float f g i j 3 s 0 i j (omega arith) (omega arith) (omega arith), s 1 (omega arith), s 2 (omega arith)) refl
same_first geodetic f g i j s = rw (same-vec f g i j 4 s 0 i j (omega arith) (omega arith) (omega arith), s 3 (omega arith)) refl
same_first (vector o) f g i j s = rw (same_float f g i j 3 s 0 i j (omega arith) (omega arith) (omega arith), s 1 (omega arith), s 2 (omega arith)) refl
same_first (frame o) f g i j s = rw (same-vec f g i j 21 s 0 i j (omega arith) (omega arith) (omega arith), same-mat f g i j 21 s 3 (i + 3) (j + 3) (omega arith) refl refl, same-mat f g i j 21 s 12 (i + 12) (j + 12) (omega arith) refl refl) refl

pub same-value : (k : Kind) (f g : List Float) (i j : ℕ) → ((m : ℕ) → m < 21 → float_at f (i + m) ≡ float_at g (j + m)) → value_at k f i ≡ value_at k g j
same-value k f g i j s = same_first k f g i j (λ m h. s m (omega (arith, width-most k)))

-- ---- what stays as it was

pub kept_refl : (f : List Float) (i : ℕ) → KeptBelow f i f
kept_refl f i = record { size = refl; below = λ j h. refl }

pub kept_trans : (f g h : List Float) (i j : ℕ) → KeptBelow f i g → KeptBelow g j h → i ≤ j → KeptBelow f i h
kept_trans f g h i j a b l = record { size = b.size ∙ a.size; below = λ k s. b.below k (omega arith) ∙ a.below k s }

pub kept_set : (f : List Float) (i : ℕ) (x : Float) → KeptBelow f i (set f i x)
kept_set f i x = record { size = length-set f i x; below = λ j h. get_or-set_other f i j x nan (λ e. omega arith) }

pub kept-lay : (f : List Float) (i : ℕ) (xs : List Float) → KeptBelow f i (lay f i xs)
unfolding lay
kept-lay f i [] = kept_refl f i
kept-lay f i (x ∷ xs) = kept_trans f (set f i x) (lay (set f i x) (suc i) xs) i (suc i) (kept_set f i x) (kept-lay (set f i x) (suc i) xs) (omega arith)

pub kept-value : (k : Kind) (f g : List Float) (n : ℕ) → KeptBelow f n g → (i : ℕ) → i + 21 ≤ n → value_at k g i ≡ value_at k f i
kept-value k f g n kept i h = same-value k g f i i (λ m l. kept.below (i + m) (omega arith))

pub kept-lies : (f g : List Float) (n : ℕ) → KeptBelow f n g → (i : ℕ) (v : Value) → i + 21 ≤ n → Lies f i v → Lies g i v
kept-lies f g n kept i v h l = record { is = kept-value (kind_of v) f g n kept i h ∙ l.is }

pub values-kept : (ks : List Kind) (f g : List Float) (n : ℕ) → KeptBelow f n g → (i : ℕ) → i + 21 * length ks ≤ n → values_at ks g i ≡ values_at ks f i
unfolding values_at
values-kept [] f g n kept i h = refl
values-kept (k ∷ ks) f g n kept i h = rw (kept-value k f g n kept i (omega arith), values-kept ks f g n kept (i + 21) (omega arith)) refl

pub values-append : (ks js : List Kind) (f : List Float) (i : ℕ) → values_at (ks ++ js) f i ≡ values_at ks f i ++ values_at js f (i + 21 * length ks)
unfolding values_at
values-append [] js f i = rw add-zero refl
values-append (k ∷ ks) js f i = ap (λ vs. value_at k f i ∷ vs) (values-append ks js f (i + 21) ∙ ap (λ (n : ℕ). values_at ks f (i + 21) ++ values_at js f n) (omega arith))

-- ---- floats stored one after another

pub lay-append : (xs ys f : List Float) (i : ℕ) → lay f i (xs ++ ys) ≡ lay (lay f i xs) (i + length xs) ys
unfolding lay
lay-append [] ys f i = rw add-zero refl
lay-append (x ∷ xs) ys f i = lay-append xs ys (set f i x) (suc i) ∙ ap (λ (n : ℕ). lay (lay (set f i x) (suc i) xs) n ys) (omega arith)

read-lay : (xs f : List Float) (i m : ℕ) → m < length xs → i + length xs ≤ length f → float_at (lay f i xs) (i + m) ≡ float_at xs m
unfolding lay
read-lay [] f i m h r = absurd (omega arith)
read-lay (x ∷ xs) f i zero h r =
    ap (λ (n : ℕ). float_at (lay (set f i x) (suc i) xs) n) (omega arith)
    ∙ (kept-lay (set f i x) (suc i) xs).below i (omega arith)
    ∙ get_or-set_same f i x nan (omega arith)
read-lay (x ∷ xs) f i (suc m) h r =
    ap (λ (n : ℕ). float_at (lay (set f i x) (suc i) xs) n) (omega arith)
    ∙ read-lay xs (set f i x) (suc i) m (omega arith) (omega (arith, r, length-set f i x))

-- ---- a value's floats, stored

module _ (f : List Float) (lf : length f ≡ 2940) (i : ℕ) (room : i + 21 ≤ 2940) where
  lies-lay : (v : Value) (xs : List Float) → length xs ≡ width (kind_of v) → value_at (kind_of v) xs 0 ≡ v → Lies (lay f i xs) i v
  lies-lay v xs e b = record {
    is = same_first (kind_of v) (lay f i xs) xs i 0 (λ m h. read-lay xs f i m (omega arith) (omega (arith, width-most (kind_of v))) ∙ ap (float_at xs) (sym (zero-add m))) ∙ b;
  }

  pub lies-number : (x : Float) → Lies (set f i x) i (Number x)
  unfolding lay value_at
  lies-number x = lies-lay (Number x) (x ∷ []) refl refl

  pub lies-angle : (x : Angle) → Lies (set f i x.0) i (Radians x)
  unfolding lay value_at
  lies-angle x = lies-lay (Radians x) (x.0 ∷ []) refl refl

  pub lies-length : (x : Length) → Lies (set f i x.0) i (Metres x)
  unfolding lay value_at
  lies-length x = lies-lay (Metres x) (x.0 ∷ []) refl refl

  pub lies-geocentric : (p : GeocentricPosition) → Lies (lay f i (p.x.0 ∷ p.y.0 ∷ p.z.0 ∷ [])) i (Geocentric p)
  unfolding value_at
  lies-geocentric p = lies-lay (Geocentric p) (p.x.0 ∷ p.y.0 ∷ p.z.0 ∷ []) refl refl

  pub lies-geodetic : (p : GeodeticPosition) → Lies (set (lay f i (p.hp.0.x ∷ p.hp.0.y ∷ p.hp.0.z ∷ [])) (i + 3) p.height.0) i (Geodetic p)
  unfolding lay value_at
  lies-geodetic p =
      let xs : List Float = p.hp.0.x ∷ p.hp.0.y ∷ p.hp.0.z ∷ [] in
      rw (← lay-append xs (p.height.0 ∷ []) f i) (lies-lay (Geodetic p) (xs ++ (p.height.0 ∷ [])) refl refl)

  pub lies-vector : (v : LocalVector) → Lies (lay f i (v.x.0 ∷ v.y.0 ∷ v.z.0 ∷ [])) i (Vector v)
  unfolding value_at
  lies-vector v = lies-lay (Vector v) (v.x.0 ∷ v.y.0 ∷ v.z.0 ∷ []) refl refl

  pub lies-frame : (p : LocalFrame) → Lies (lay f i (frame_floats p)) i (Frame p)
  unfolding value_at
  lies-frame p = lies-lay (Frame p) (frame_floats p) refl refl
