-- Lists by an element, under a function, and equal arguments. Assumes nothing.
use mathlib.Core.Path.{◌≡◌, refl, ap, ◌∙◌}
use mathlib.Core.List.{List, [], ◌∷◌, map}
use Prim.Native.Nat.{ℕ, zero, suc, ◌+◌, ◌<◌}
use native.Mathlib.Numerals.{add-one}
use native.Mathlib.Omega.{arith}
use lib.ListN.{length, take, drop, get_or}
use lib.Seq.{drop-cons}

-- one element at a cursor, with the code's i + 1
pub drop_at : {A : Type 0} (l : List A) (i : ℕ) (d : A) → i < length l → drop i l ≡ get_or l i d ∷ drop (i + 1) l
drop_at l i d h = rw (add-one i) (drop-cons l i d h)

-- lists that are equally long and have the same at every place are equal
pub by_place : {A : Type 0} (d : A) (a b : List A) → length a ≡ length b → ((k : ℕ) → k < length a → get_or a k d ≡ get_or b k d) → a ≡ b
by_place d [] [] e f = refl
by_place d [] (y ∷ b) e f = absurd (omega arith)
by_place d (x ∷ a) [] e f = absurd (omega arith)
by_place {A} d (x ∷ a) (y ∷ b) e f =
    ap {B = List A} (λ n. n ∷ a) (f 0 (omega arith)) ∙ ap {B = List A} (λ l. y ∷ l) (by_place d a b (omega arith) (λ k h. f (suc k) (omega arith)))

pub map_take : {A B : Type 0} (f : A → B) (n : ℕ) (l : List A) → map f (take n l) ≡ take n (map f l)
map_take f zero l = refl
map_take f (suc n) [] = refl
map_take {A} {B} f (suc n) (x ∷ l) = ap {B = List B} (λ r. f x ∷ r) (map_take f n l)

pub ap2 : {X Y Z : Type 0} (f : X → Y → Z) {x x' : X} {y y' : Y} → x ≡ x' → y ≡ y' → f x y ≡ f x' y'
ap2 f {x} {x'} {y} {y'} p q = ap (λ a. f a y) p ∙ ap (f x') q

pub ap3 : {W X Y Z : Type 0} (f : W → X → Y → Z) {w w' : W} {x x' : X} {y y' : Y} → w ≡ w' → x ≡ x' → y ≡ y' → f w x y ≡ f w' x' y'
ap3 f {w} {w'} {x} {x'} {y} {y'} o p q = ap (λ a. f a x y) o ∙ ap2 (f w') p q
