-- Looking a line up in the list after it was changed. Assumes nothing.
use Prim.Native.Nat.{ℕ}
use mathlib.Core.Path.{◌≡◌, refl, sym, ap, subst, ◌∙◌}
use mathlib.Core.Bool.{Bool, true, false, cond}
use mathlib.Core.Logic.{◌⊎◌, inl, inr}
use mathlib.Core.List.{List, [], ◌∷◌, map}
use mathlib.Core.Option.{Option, none, some}
use lib.Dec.{eqb}
use native.Mathlib.Omega.{arith}
use borrow.Author.Tests.{eqb-true, eqb-false, eq-eqb, ne_eqb}
use Rattle.rtps_reader_proxy.specs.Reader.{Reader}
use Rattle.other_end.specs.System.{Line, Msg, find, upd, dropped, on_server}

pub none-some : {A : Type 0} {x : Line} → none ≡ some x → A
none-some {A} {x} e = let z : ◌≡◌ {A = ℕ} 0 1 = cc in absurd (omega arith)

pub none_msg : {A : Type 0} {x : Msg} → none ≡ some x → A
none_msg {A} {x} e = let z : ◌≡◌ {A = ℕ} 0 1 = cc in absurd (omega arith)

pub some-line : {x y : Line} → some x ≡ some y → x ≡ y
some-line e = cc

pub some_msg : {x y : Msg} → some x ≡ some y → x ≡ y
some_msg e = cc

pub find-id : (i : ℕ) (ls : List Line) (l : Line) → find i ls ≡ some l → l.id ≡ i
find-id i [] l e = none-some e
find-id i (x ∷ xs) l e = go (eqb i x.id) refl e (find-id i xs l)
  where
    go : (t : Bool) → eqb i x.id ≡ t → cond t (some x) (find i xs) ≡ some l → (find i xs ≡ some l → l.id ≡ i) → l.id ≡ i
    go true f g r = sym (eqb-true i x.id f ∙ ap (λ (y : Line). y.id) (some-line g))
    go false f g r = r g

-- what stood at j before the lines with the id i were changed by f
pub find-upd : (i j : ℕ) (f : Line → Line) → ((l : Line) → (f l).id ≡ l.id) → (ls : List Line) (l' : Line) → find j (upd i f ls) ≡ some l'
    → (l : Line) × (find j ls ≡ some l) × (((i ≡ l.id) × (l' ≡ f l)) ⊎ (((i ≡ j) → ⊥) × (l' ≡ l)))
find-upd i j f keeps [] l' e = none-some e
find-upd i j f keeps (x ∷ xs) l' e = go (eqb i x.id) refl e (find-upd i j f keeps xs l')
  where
    hit : (t : Bool) → eqb j x.id ≡ t → (y : Line) → (((i ≡ x.id) × (y ≡ f x)) ⊎ (((i ≡ x.id) → ⊥) × (y ≡ x))) → cond t (some y) (find j (upd i f xs)) ≡ some l'
        → (find j (upd i f xs) ≡ some l' → (l : Line) × (find j xs ≡ some l) × (((i ≡ l.id) × (l' ≡ f l)) ⊎ (((i ≡ j) → ⊥) × (l' ≡ l))))
        → (l : Line) × (cond t (some x) (find j xs) ≡ some l) × (((i ≡ l.id) × (l' ≡ f l)) ⊎ (((i ≡ j) → ⊥) × (l' ≡ l)))
    hit true q y (inl w) g r = (x, refl, inl (w.0, sym (some-line g) ∙ w.1))
    hit true q y (inr w) g r = (x, refl, inr (λ (z : i ≡ j). w.0 (z ∙ eqb-true j x.id q), sym (some-line g) ∙ w.1))
    hit false q y w g r = r g

    go : (t : Bool) → eqb i x.id ≡ t → cond (eqb j (cond t (f x) x).id) (some (cond t (f x) x)) (find j (upd i f xs)) ≡ some l'
        → (find j (upd i f xs) ≡ some l' → (l : Line) × (find j xs ≡ some l) × (((i ≡ l.id) × (l' ≡ f l)) ⊎ (((i ≡ j) → ⊥) × (l' ≡ l))))
        → (l : Line) × (cond (eqb j x.id) (some x) (find j xs) ≡ some l) × (((i ≡ l.id) × (l' ≡ f l)) ⊎ (((i ≡ j) → ⊥) × (l' ≡ l)))
    go true q g r = hit (eqb j x.id) refl (f x) (inl (eqb-true i x.id q, refl)) (subst (λ (k : ℕ). cond (eqb j k) (some (f x)) (find j (upd i f xs)) ≡ some l') (keeps x) g) r
    go false q g r = hit (eqb j x.id) refl x (inr (eqb-false i x.id q, refl)) g r

-- what stands at i once they are changed, and at another id
pub find-same : (i : ℕ) (f : Line → Line) → ((l : Line) → (f l).id ≡ l.id) → (ls : List Line) (l : Line) → find i ls ≡ some l → find i (upd i f ls) ≡ some (f l)
find-same i f keeps [] l e = none-some e
find-same i f keeps (x ∷ xs) l e = go (eqb i x.id) refl e (find-same i f keeps xs l)
  where
    go : (t : Bool) → eqb i x.id ≡ t → cond t (some x) (find i xs) ≡ some l → (find i xs ≡ some l → find i (upd i f xs) ≡ some (f l)) → cond (eqb i (cond t (f x) x).id) (some (cond t (f x) x)) (find i (upd i f xs)) ≡ some (f l)
    go true q g r = ap (λ (t : Bool). cond t (some (f x)) (find i (upd i f xs))) (ap (eqb i) (keeps x) ∙ q) ∙ ap (λ (y : Line). some (f y)) (some-line g)
    go false q g r = ap (λ (t : Bool). cond t (some x) (find i (upd i f xs))) q ∙ r g

pub find_other : (j i : ℕ) (f : Line → Line) → ((l : Line) → (f l).id ≡ l.id) → (j ≡ i → ⊥) → (ls : List Line) → find i (upd j f ls) ≡ find i ls
find_other j i f keeps d [] = refl
find_other j i f keeps d (x ∷ xs) = go (eqb j x.id) refl (find_other j i f keeps d xs)
  where
    go : (t : Bool) → eqb j x.id ≡ t → find i (upd j f xs) ≡ find i xs → cond (eqb i (cond t (f x) x).id) (some (cond t (f x) x)) (find i (upd j f xs)) ≡ cond (eqb i x.id) (some x) (find i xs)
    go true q r =
        let n : eqb i x.id ≡ false = ne_eqb i x.id (λ (z : i ≡ x.id). d (eqb-true j x.id q ∙ sym z)) in
        ap (λ (k : ℕ). cond (eqb i k) (some (f x)) (find i (upd j f xs))) (keeps x) ∙ ap (λ (t : Bool). cond t (some (f x)) (find i (upd j f xs))) n ∙ r
        ∙ sym (ap (λ (t : Bool). cond t (some x) (find i xs)) n)
    go false q r = ap (λ (o : Option Line). cond (eqb i x.id) (some x) o) r

-- every reader's record changed
pub find-map : (g : Reader → Reader) (j : ℕ) (ls : List Line) (l' : Line) → find j (map (on_server g) ls) ≡ some l' → (l : Line) × (find j ls ≡ some l) × (l' ≡ on_server g l)
find-map g j [] l' e = none-some e
find-map g j (x ∷ xs) l' e = go (eqb j x.id) e (find-map g j xs l')
  where
    go : (t : Bool) → cond t (some (on_server g x)) (find j (map (on_server g) xs)) ≡ some l' → (find j (map (on_server g) xs) ≡ some l' → (l : Line) × (find j xs ≡ some l) × (l' ≡ on_server g l)) → (l : Line) × (cond t (some x) (find j xs) ≡ some l) × (l' ≡ on_server g l)
    go true f r = (x, refl, sym (some-line f))
    go false f r = r f

-- a departure: the id is gone, and the others stand as they stood
pub find-gone : (i : ℕ) (ls : List Line) → find i (dropped i ls) ≡ none
find-gone i [] = refl
find-gone i (y ∷ ys) = on (eqb i y.id) refl (find-gone i ys)
  where
    on : (t : Bool) → eqb i y.id ≡ t → find i (dropped i ys) ≡ none → find i (cond t (dropped i ys) (y ∷ dropped i ys)) ≡ none
    on true f r = r
    on false f r = ap (λ (t : Bool). cond t (some y) (find i (dropped i ys))) f ∙ r

pub find-stays : (i j : ℕ) → (i ≡ j → ⊥) → (ls : List Line) → find j (dropped i ls) ≡ find j ls
find-stays i j d [] = refl
find-stays i j d (y ∷ ys) = on (eqb i y.id) refl (find-stays i j d ys)
  where
    on : (t : Bool) → eqb i y.id ≡ t → find j (dropped i ys) ≡ find j ys → find j (cond t (dropped i ys) (y ∷ dropped i ys)) ≡ cond (eqb j y.id) (some y) (find j ys)
    on true f r = r ∙ sym (ap (λ (t : Bool). cond t (some y) (find j ys)) (ne_eqb j y.id (λ (z : j ≡ y.id). d (eqb-true i y.id f ∙ sym z))))
    on false f r = ap (λ (o : Option Line). cond (eqb j y.id) (some y) o) r

pub find-left : (i j : ℕ) (ls : List Line) (l : Line) → find j (dropped i ls) ≡ some l → ((i ≡ j) → ⊥) × (find j ls ≡ some l)
find-left i j ls l e = (away, sym (find-stays i j away ls) ∙ e)
  where
    away : (i ≡ j) → ⊥
    away z = none-some (sym (find-gone i ls) ∙ subst (λ (k : ℕ). find k (dropped i ls) ≡ some l) (sym z) e)

-- what stood at an id still stands there, changed or not
pub find-kept : (i j : ℕ) (f : Line → Line) → ((l : Line) → (f l).id ≡ l.id) → (ls : List Line) (l : Line) → find j ls ≡ some l → (l' : Line) × (find j (upd i f ls) ≡ some l')
find-kept i j f keeps ls l e = go (eqb i j) refl
  where
    go : (t : Bool) → eqb i j ≡ t → (l' : Line) × (find j (upd i f ls) ≡ some l')
    go true q = (f l, subst (λ (k : ℕ). find j (upd k f ls) ≡ some (f l)) (sym (eqb-true i j q)) (find-same j f keeps ls l e))
    go false q = (l, find_other i j f keeps (eqb-false i j q) ls ∙ e)

pub find_mapped : (g : Reader → Reader) (j : ℕ) (ls : List Line) (l : Line) → find j ls ≡ some l → find j (map (on_server g) ls) ≡ some (on_server g l)
find_mapped g j [] l e = none-some e
find_mapped g j (x ∷ xs) l e = go (eqb j x.id) e (find_mapped g j xs l)
  where
    go : (t : Bool) → cond t (some x) (find j xs) ≡ some l → (find j xs ≡ some l → find j (map (on_server g) xs) ≡ some (on_server g l)) → cond t (some (on_server g x)) (find j (map (on_server g) xs)) ≡ some (on_server g l)
    go true q r = ap (λ (y : Line). some (on_server g y)) (some-line q)
    go false q r = r q

-- NO TWO LINES HAVE THE SAME ID

abbrev pub Apart : List Line → Type 0
Apart [] = Unit {0}
Apart (l ∷ ls) = (find l.id ls ≡ none) × Apart ls

none-upd : (i j : ℕ) (f : Line → Line) → ((l : Line) → (f l).id ≡ l.id) → (ls : List Line) → find j ls ≡ none → find j (upd i f ls) ≡ none
none-upd i j f keeps [] e = refl
none-upd i j f keeps (x ∷ xs) e = go (eqb i x.id) (eqb j x.id) refl e (none-upd i j f keeps xs)
  where
    there : (y : Line) → y.id ≡ x.id → (u : Bool) → eqb j x.id ≡ u → cond u (some x) (find j xs) ≡ none → (find j xs ≡ none → find j (upd i f xs) ≡ none) → cond (eqb j y.id) (some y) (find j (upd i f xs)) ≡ none
    there y q true p e r = none-some (sym e)
    there y q false p e r = ap (λ (t : Bool). cond t (some y) (find j (upd i f xs))) (ap (eqb j) q ∙ p) ∙ r e

    go : (t u : Bool) → eqb j x.id ≡ u → cond u (some x) (find j xs) ≡ none → (find j xs ≡ none → find j (upd i f xs) ≡ none)
        → cond (eqb j (cond t (f x) x).id) (some (cond t (f x) x)) (find j (upd i f xs)) ≡ none
    go true u p e r = there (f x) (keeps x) u p e r
    go false u p e r = there x refl u p e r

pub apart_upd : (i : ℕ) (f : Line → Line) → ((l : Line) → (f l).id ≡ l.id) → (ls : List Line) → Apart ls → Apart (upd i f ls)
apart_upd i f keeps [] a = tt
apart_upd i f keeps (x ∷ xs) a = (go (eqb i x.id), apart_upd i f keeps xs a.1)
  where
    go : (t : Bool) → find (cond t (f x) x).id (upd i f xs) ≡ none
    go true = subst (λ (k : ℕ). find k (upd i f xs) ≡ none) (sym (keeps x)) (none-upd i x.id f keeps xs a.0)
    go false = none-upd i x.id f keeps xs a.0

none-map : (g : Reader → Reader) (j : ℕ) (ls : List Line) → find j ls ≡ none → find j (map (on_server g) ls) ≡ none
none-map g j [] e = refl
none-map g j (x ∷ xs) e = go (eqb j x.id) e (none-map g j xs)
  where
    go : (t : Bool) → cond t (some x) (find j xs) ≡ none → (find j xs ≡ none → find j (map (on_server g) xs) ≡ none) → cond t (some (on_server g x)) (find j (map (on_server g) xs)) ≡ none
    go true e r = none-some (sym e)
    go false e r = r e

pub apart_map : (g : Reader → Reader) (ls : List Line) → Apart ls → Apart (map (on_server g) ls)
apart_map g [] a = tt
apart_map g (x ∷ xs) a = (none-map g x.id xs a.0, apart_map g xs a.1)

none_dropped : (i j : ℕ) (ls : List Line) → find j ls ≡ none → find j (dropped i ls) ≡ none
none_dropped i j [] e = refl
none_dropped i j (x ∷ xs) e = go (eqb i x.id) (eqb j x.id) refl e (none_dropped i j xs)
  where
    go : (t u : Bool) → eqb j x.id ≡ u → cond u (some x) (find j xs) ≡ none → (find j xs ≡ none → find j (dropped i xs) ≡ none) → find j (cond t (dropped i xs) (x ∷ dropped i xs)) ≡ none
    go t true p e r = none-some (sym e)
    go true false p e r = r e
    go false false p e r = ap (λ (v : Bool). cond v (some x) (find j (dropped i xs))) p ∙ r e

pub apart_dropped : (i : ℕ) (ls : List Line) → Apart ls → Apart (dropped i ls)
apart_dropped i [] a = tt
apart_dropped i (x ∷ xs) a = go (eqb i x.id) (apart_dropped i xs a.1)
  where
    go : (t : Bool) → Apart (dropped i xs) → Apart (cond t (dropped i xs) (x ∷ dropped i xs))
    go true r = r
    go false r = (none_dropped i x.id xs a.0, r)

-- so what holds of every line that is found holds of all
abbrev pub All : (Line → Type 0) → List Line → Type 0
All P [] = Unit {0}
All P (l ∷ ls) = P l × All P ls

pub found_all : (P : Line → Type 0) (ls : List Line) → Apart ls → ((i : ℕ) (l : Line) → find i ls ≡ some l → P l) → All P ls
found_all P [] a f = tt
found_all P (x ∷ xs) a f = (f x.id x (ap (λ (t : Bool). cond t (some x) (find x.id xs)) (eq-eqb x.id x.id refl)), found_all P xs a.1 (λ i l e. f i l (go i l e (eqb i x.id) refl)))
  where
    go : (i : ℕ) (l : Line) → find i xs ≡ some l → (t : Bool) → eqb i x.id ≡ t → cond t (some x) (find i xs) ≡ some l
    go i l e true q = none-some (sym a.0 ∙ subst (λ (k : ℕ). find k xs ≡ some l) (eqb-true i x.id q) e)
    go i l e false q = e
