-- What the derived `==` of angles, vectors and matrices answers is `angle_eq`, `vec_eq` and `mat_eq` of specs: the Rust's, number by number.
use Rattle.std.proofs.Common.{◌≡◌, Bool, ◌&&◌, refl, sym}
use Rattle.std.proofs.Math.Bool.{and_assoc}
use lib.Ieee as Ieee
use Rattle.numbers.specs.Angles.{angle_eq}
use Rattle.numbers.specs.Vec.{vec_eq}
use Rattle.numbers.specs.Mat.{mat_eq}
use Rattle.numbers.specs.declared.Angle.{Angle}
use Rattle.numbers.specs.declared.Vec3.{Vec3}
use Rattle.numbers.specs.declared.Mat33.{Mat33}
use Rattle.numbers.specs.contracts.AnglePartialEq.TheImpl as AngleEq
use Rattle.numbers.specs.contracts.Vec3PartialEq.TheImpl as VecEq
use Rattle.numbers.specs.contracts.Mat33PartialEq.TheImpl as MatEq

pub equal_angles : (a b : Angle) → (AngleEq.ghosts).eq a b ≡ angle_eq a b
equal_angles a b = refl

pub equal_vectors : (a b : Vec3) → (VecEq.ghosts).eq a b ≡ vec_eq a b
equal_vectors a b = sym (and_assoc (Ieee.eq a.x b.x) (Ieee.eq a.y b.y) (Ieee.eq a.z b.z))

-- three tests in turn, by any grouping
grouped : {p q r p' q' r' : Bool} → p ≡ p' → q ≡ q' → r ≡ r' → (p && (q && r)) ≡ (p' && q' && r')
grouped {p' = p'} {q' = q'} {r' = r'} e f g = rw (e, f, g) (sym (and_assoc p' q' r'))

pub equal_matrices : (a b : Mat33) → (MatEq.ghosts).eq a b ≡ mat_eq a b
equal_matrices a b = grouped (equal_vectors a.r0 b.r0) (equal_vectors a.r1 b.r1) (equal_vectors a.r2 b.r2)
