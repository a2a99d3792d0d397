-- Laws of tests over lists, and of odd counts.
use Rattle.std.proofs.Common.{◌≡◌, ℕ, suc, ◌+◌, Bool, true, false, cond, ◌&&◌, ◌||◌, ◌⊎◌, List, [], ◌∷◌, ◌++◌, count_by, filter, sym, refl, ap, ◌∙◌, subst, inl, inr, true≢false, arith}
use mathlib.Core.List.Memᴰ
use mathlib.Core.List.{Memᴰ}
use Rattle.std.proofs.lemmas.List.Sums.{sum_by-cons}
use Rattle.std.proofs.lemmas.Bool.{or_cases, or_left, or_right}
use Rattle.outline.specs.Lists.{odd, unlike, any, in_turn}

-- ---- odd counts
-- one more turns an odd count
odd_more : (b : Bool) (n : ℕ) → odd (cond b 1 0 + n) ≡ unlike b (odd n)
odd_more true n = let e : 1 + n ≡ suc n = omega arith in ap odd e
odd_more false n = let e : 0 + n ≡ n = omega arith in ap odd e

-- whether the count of a longer list is odd
pub odd_cons : {X : Type 0} (p : X → Bool) (x : X) (xs : List X) → odd (count_by p (x ∷ xs)) ≡ unlike (p x) (odd (count_by p xs))
odd_cons p x xs = ap odd (sum_by-cons (λ y. cond (p y) 1 0) x xs) ∙ odd_more (p x) (count_by p xs)

-- two counts by tests that answer the same
pub odd_same : {X : Type 0} (p q : X → Bool) (xs : List X) → ((x : X) → Memᴰ x xs → p x ≡ q x) → odd (count_by p xs) ≡ odd (count_by q xs)
odd_same p q [] h = refl
odd_same p q (x ∷ xs) h =
    odd_cons p x xs
    ∙ ap (λ (b : Bool). unlike b (odd (count_by p xs))) (h x (Memᴰ.head refl))
    ∙ ap (unlike (q x)) (odd_same p q xs (λ y m. h y (Memᴰ.tail m)))
    ∙ sym (odd_cons q x xs)

-- an odd count has an element that passes the test
pub odd_some : {X : Type 0} (p : X → Bool) (xs : List X) → odd (count_by p xs) ≡ true → (x : X) × Memᴰ x xs × (p x ≡ true)
odd_some p [] e = absurd (true≢false (sym e))
odd_some {X} p (x ∷ xs) e = go (p x) refl (odd_some p xs)
  where
    go : (b : Bool) → p x ≡ b → (odd (count_by p xs) ≡ true → (y : X) × Memᴰ y xs × (p y ≡ true)) → (y : X) × Memᴰ y (x ∷ xs) × (p y ≡ true)
    go true f ih = (x, Memᴰ.head refl, f)
    go false f ih =
        let r = ih (sym (ap (λ (b : Bool). unlike b (odd (count_by p xs))) f) ∙ sym (odd_cons p x xs) ∙ e) in
        (r.0, Memᴰ.tail r.1, r.2)

-- to count among those kept is to count both tests
pub odd_kept : {X : Type 0} (p q : X → Bool) (xs : List X) → odd (count_by q (filter p xs)) ≡ odd (count_by (λ x. p x && q x) xs)
odd_kept p q [] = refl
odd_kept p q (x ∷ xs) = go (p x) (odd_kept p q xs) ∙ sym (odd_cons (λ y. p y && q y) x xs)
  where
    go : (b : Bool) → odd (count_by q (filter p xs)) ≡ odd (count_by (λ y. p y && q y) xs) → odd (count_by q (cond b (x ∷ filter p xs) (filter p xs))) ≡ unlike (b && q x) (odd (count_by (λ y. p y && q y) xs))
    go true ih = odd_cons q x (filter p xs) ∙ ap (unlike (q x)) ih
    go false ih = ih

-- ---- some element
-- a test that some element passes, and that element
pub any_some : {X : Type 0} (p : X → Bool) (xs : List X) → any p xs ≡ true → (x : X) × Memᴰ x xs × (p x ≡ true)
any_some p [] e = absurd (true≢false (sym e))
any_some {X} p (x ∷ xs) e = go (or_cases (p x) (any p xs) e) (any_some p xs)
  where
    go : (p x ≡ true) ⊎ (any p xs ≡ true) → (any p xs ≡ true → (y : X) × Memᴰ y xs × (p y ≡ true)) → (y : X) × Memᴰ y (x ∷ xs) × (p y ≡ true)
    go (inl f) ih = (x, Memᴰ.head refl, f)
    go (inr f) ih = let r = ih f in (r.0, Memᴰ.tail r.1, r.2)

-- an element that passes is enough
pub some_any : {X : Type 0} (p : X → Bool) (x : X) (xs : List X) → Memᴰ x xs → p x ≡ true → any p xs ≡ true
some_any p x [] m f = elim m [ ]
some_any {X} p x (y ∷ xs) m f = go (Memᴰ.cases_cons m) (λ n. some_any p x xs n f)
  where
    go : (x ≡ y) ⊎ Memᴰ x xs → (Memᴰ x xs → any p xs ≡ true) → any p (y ∷ xs) ≡ true
    go (inl e) ih = or_left (p y) (any p xs) (sym (ap p e) ∙ f)
    go (inr n) ih = or_right (p y) (any p xs) (ih n)

-- ---- what is kept
-- what is kept is a member and passes the test
pub kept_in : {X : Type 0} (p : X → Bool) (x : X) (xs : List X) → Memᴰ x (filter p xs) → Memᴰ x xs × (p x ≡ true)
kept_in p x [] m = elim m [ ]
kept_in {X} p x (y ∷ xs) m = go (p y) refl m (kept_in p x xs)
  where
    at : {zs : List X} → p y ≡ true → Memᴰ x (y ∷ zs) → (Memᴰ x zs → Memᴰ x xs × (p x ≡ true)) → Memᴰ x (y ∷ xs) × (p x ≡ true)
    at f (Memᴰ.head e) ih = (Memᴰ.head e, ap p e ∙ f)
    at f (Memᴰ.tail n) ih = (Memᴰ.tail (ih n).0, (ih n).1)

    go : (b : Bool) → p y ≡ b → Memᴰ x (cond b (y ∷ filter p xs) (filter p xs)) → (Memᴰ x (filter p xs) → Memᴰ x xs × (p x ≡ true)) → Memᴰ x (y ∷ xs) × (p x ≡ true)
    go true f n ih = at f n ih
    go false f n ih = (Memᴰ.tail (ih n).0, (ih n).1)

-- a member that passes the test is kept
pub in_kept : {X : Type 0} (p : X → Bool) (x : X) (xs : List X) → Memᴰ x xs → p x ≡ true → Memᴰ x (filter p xs)
in_kept p x [] m f = elim m [ ]
in_kept {X} p x (y ∷ xs) m f = go (Memᴰ.cases_cons m) (λ n. in_kept p x xs n f)
  where
    first : (b : Bool) → b ≡ true → x ≡ y → Memᴰ x (cond b (y ∷ filter p xs) (filter p xs))
    first true g e = Memᴰ.head e
    first false g e = absurd (true≢false (sym g))

    later : (b : Bool) → Memᴰ x (filter p xs) → Memᴰ x (cond b (y ∷ filter p xs) (filter p xs))
    later true n = Memᴰ.tail n
    later false n = n

    go : (x ≡ y) ⊎ Memᴰ x xs → (Memᴰ x xs → Memᴰ x (filter p xs)) → Memᴰ x (filter p (y ∷ xs))
    go (inl e) ih = first (p y) (sym (ap p e) ∙ f) e
    go (inr n) ih = later (p y) (ih n)

-- ---- what comes in turn
-- what a member gives comes in turn
pub in_turn_lem : {X Y : Type 0} (f : X → List Y) (y : Y) (x : X) (xs : List X) → Memᴰ x xs → Memᴰ y (f x) → Memᴰ y (in_turn f xs)
in_turn_lem f y x [] m n = elim m [ ]
in_turn_lem {X} {Y} f y x (z ∷ xs) m n = go (Memᴰ.cases_cons m) (λ k. in_turn_lem f y x xs k n)
  where
    go : (x ≡ z) ⊎ Memᴰ x xs → (Memᴰ x xs → Memᴰ y (in_turn f xs)) → Memᴰ y (f z ++ in_turn f xs)
    go (inl e) ih = Memᴰ.append_left (in_turn f xs) (subst (λ (w : X). Memᴰ y (f w)) e n)
    go (inr k) ih = Memᴰ.append_right (f z) (ih k)

-- what comes in turn is what a member gives
pub turn_in : {X Y : Type 0} (f : X → List Y) (y : Y) (xs : List X) → Memᴰ y (in_turn f xs) → (x : X) × Memᴰ x xs × Memᴰ y (f x)
turn_in f y [] m = elim m [ ]
turn_in {X} {Y} f y (x ∷ xs) m = go (Memᴰ.append_cases (f x) m) (turn_in f y xs)
  where
    go : Memᴰ y (f x) ⊎ Memᴰ y (in_turn f xs) → (Memᴰ y (in_turn f xs) → (z : X) × Memᴰ z xs × Memᴰ y (f z)) → (z : X) × Memᴰ z (x ∷ xs) × Memᴰ y (f z)
    go (inl n) ih = (x, Memᴰ.head refl, n)
    go (inr n) ih = let r = ih n in (r.0, Memᴰ.tail r.1, r.2)

-- a test of one element more
pub any_push : {X : Type 0} (p : X → Bool) (xs : List X) (x : X) → any p (xs ++ x ∷ []) ≡ (any p xs || p x)
any_push p [] x = go (p x)
  where
    go : (b : Bool) → (b || false) ≡ b
    go true = refl
    go false = refl
any_push p (y ∷ xs) x = go (p y) (any_push p xs x)
  where
    go : (b : Bool) → any p (xs ++ x ∷ []) ≡ (any p xs || p x) → (b || any p (xs ++ x ∷ [])) ≡ ((b || any p xs) || p x)
    go true e = refl
    go false e = e
