-- A walk over a lent list of plain records from the last to the first, whose turn asks a function of the whole list, proved once:
--     pub fn w(list: &[S]) -> Q    ensures  r ≡ G list
--     { let mut acc = begin(); let mut i = list.len();
--       while 0 < i { let at = i - 1; let h = list[at]; acc = meet(acc, h); let from = start(acc, i); let c = f(list, from, h); acc = told(acc, c); i = at; }
--       end(acc) }
-- where `f(list: &[S], from: usize, h: S) -> C` ensures r ≡ F list from h, and the others are by-value functions that ensure what their names say (`Plain.antt`).
-- The invariant: the accumulator is `gone` of what has been walked over, the list from i on. The borrow is looked into and shut in each turn, so that `f` can be lent the list.
--     meets    the MIR of w meets its contract, where the table's entries for the six meet theirs
-- Assumes `Logic`.
use mathlib.Core.Path.{◌≡◌, refl, sym, ap, subst, ◌∙◌}
use mathlib.Core.WellFounded.InvImage
use mathlib.Core.WellFounded.{WellFounded}
use Prim.Native.Nat.{ℕ, ◌<◌, ◌≤◌, ◌^◌, ◌-◌}
use native.Mathlib.Omega.{arith}
use mathlib.Core.Bool.{not}
use mathlib.Core.List.{List, [], ◌∷◌}
use lib.ListN.{length, get_or, drop as past, drop_of_length-le}
use lib.Dec.{T, ltb, ltb→lt, nltb→le}
use lib.WfN.{lt-wf_rel}
use seplogic.Ra.Ura.{Ura}
use base.Fraction.{full_share}
use mir.Syntax.{Callee, Fn, Body, named, w64, ty_bool, ty_ptr, deref, field, place, unsigned, copy, int, local, value_local, skip as skipᴹ, seq, assign, block, loop, cond, exit, call, return, rv_opd, op2, sub as subᴹ, mul, lt, offset}
use mir.Val.{Val, vint, vptr, bits}
use base.Logic.{SProp, ent, emp, via, fst∗}
use base.Fml.{GName, Lft, Share, ftrue, fat, froom, fdies, flft}
use prog.Memory.{size}
use prog.Wp.{Out, Env, after_seq, after_block, after_turn, Calls, Loops, Wp, at_return, WpFn, Tables}
use types.Logic.{Logic}
use types.Kit.{Item, ‵, ◌⊛◌, ⋆, runs, any_q, at_ret, Sq, ◌$◌, ◌∵◌, !, qed, by, move, keep, split, join, rewrite, fsplit, fjoin, suffices, frame, done}
use types.Run.{look, look_raw, store, init, forget, stop, hop, fld, from, load, lit, of_opd, bin, and_then, no_more, assigns, assigns_last, land, first, skips, jumps, blocks, branches, returns, enter, alloc1, alloc0, params1, pass1, pass0, free1, free0, exec, Below, again, loops}
use types.Part.{whole, sub, look_in}
use sound.WpLaws.{fm_of, WpFn-mono}
use denote.Exit.{yes}
use denote.RattleType.{owns}
use denote.Laws.{Is, shows}
use denote.Ref.{Bor}
use denote.Slice.{slice_val, ShrSlice, Room, shr_slice_vals, shr_slice_Tells}
use denote.Index.{place_is, elem_out, elem_back, looks_slice, shuts_slice}
use denote.Steps.{owned, nothing}
use denote.Triple.Entry.{on_entry}
use denote.Triple.Spec.{Meets}
use denote.Triple.Statement.{Triple}
use denote.Triple.Clauses.{Clauses, Ended, closing}
use denote.Triple.Walked.{says, Stays, stay_none_slice, walk_of, Goes-none_slice, Walks, ends_at, walked, walk_Meets}
use Rattle.lent.proofs.Places.{word, place-fits}
use Rattle.lent.proofs.Plain.{Cell, row, slot, Ok, uint, By0, By1, By2, calls0, calls1, calls2}
use Rattle.lent.proofs.On.{list_ty, on0, tells0, Over2, calls_on2}

-- S is the element, C what is asked of the whole list, B the accumulator, Q the result. d is any element, and `small` is `tt`
module _ (S C B Q : Cell) (F : List S.Den → ℕ → S.Den → C.Den) (begin : B.Den) (meet : B.Den → S.Den → B.Den) (start : B.Den → ℕ → ℕ) (told : B.Den → C.Den → B.Den) (end : B.Den → Q.Den) (gone : List S.Den → B.Den) (d : S.Den)
    (is_none : gone [] ≡ begin)
    (is-more : (ys : List S.Den) → length ys < 2 ^ 64 → (i : ℕ) → 0 < i → i ≤ length ys → told (meet (gone (past i ys)) (get_or ys (i - 1) d)) (F ys (start (meet (gone (past i ys)) (get_or ys (i - 1) d)) i) (get_or ys (i - 1) d)) ≡ gone (past (i - 1) ys))
    (G : List S.Den → Q.Den) (is-G : (ys : List S.Den) → length ys < 2 ^ 64 → end (gone ys) ≡ G ys) (small : T (ltb (size S.ty) (2 ^ bits w64))) where
  abbrev ended : Ended
  ended = on0 S Q

  abbrev clauses : {M : Type 1} (𝓤 : Ura M) → Clauses 𝓤 ended
  clauses 𝓤 = tells0 𝓤 S Q G

  abbrev stayed : Stays ended.signature.params ended.kept
  stayed = (stay_none_slice (0 ∷ []) tt (slot S) yes, tt)

  module _ (g₁ g₂ g₃ g₄ g₅ g₆ : Callee) where
    -- the MIR. The locals: the result, list, acc, i, at, h, from, c, the test, a number, the place of `list[at]`, and what is read there
    abbrev more : Body
    more = seq (assign (place 4 []) (op2 (subᴹ unsigned) (copy (place 3 [])) (int w64 1)))
        (seq (assign (place 9 []) (op2 (mul unsigned) (copy (place 4 [])) (int w64 (size S.ty))))
        (seq (assign (place 10 []) (op2 offset (copy (place 1 (field 0 ∷ []))) (copy (place 9 []))))
        (seq (assign (place 11 []) (rv_opd (copy (place 10 (deref S.ty ∷ [])))))
        (seq (assign (place 5 []) (rv_opd (copy (place 11 []))))
        (seq (call g₂ (copy (place 2 []) ∷ copy (place 5 []) ∷ []) (place 2 []))
        (seq (call g₃ (copy (place 2 []) ∷ copy (place 3 []) ∷ []) (place 6 []))
        (seq (call g₄ (copy (place 1 []) ∷ copy (place 6 []) ∷ copy (place 5 []) ∷ []) (place 7 []))
        (seq (call g₅ (copy (place 2 []) ∷ copy (place 7 []) ∷ []) (place 2 []))
        (assign (place 3 []) (rv_opd (copy (place 4 []))))))))))))

    abbrev turn : Body
    turn = seq (assign (place 8 []) (op2 (lt unsigned) (int w64 0) (copy (place 3 []))))
        (seq (cond (copy (place 8 [])) skipᴹ (exit 1)) more)

    abbrev rest : Body
    rest = seq (call g₆ (copy (place 2 []) ∷ []) (place 0 [])) return

    abbrev function : Fn
    function = record {
      lifetimes = 1;
      outlives = [];
      ty_params = [];
      givens = 0;
      params = 1;
      locals = local Q.ty value_local ∷ local (list_ty S) value_local ∷ local B.ty value_local ∷ local word value_local ∷ local word value_local ∷ local S.ty value_local ∷ local word value_local ∷ local C.ty value_local ∷ local ty_bool value_local ∷ local word value_local ∷ local ty_ptr value_local ∷ local S.ty value_local ∷ [];
      body = seq (call g₁ [] (place 2 [])) (seq (assign (place 3 []) (rv_opd (copy (place 1 (field 1 ∷ []))))) (seq (block (loop turn)) rest));
    }

    module _ {M : Type 1} {𝓤 : Ura M} (𝓛 : Logic 𝓤) (𝓣 : Tables 𝓤 𝓛.H) (known₁ : Triple 𝓤 (𝓣.C g₁) (By0 𝓤 𝓛 B begin)) (known₂ : Triple 𝓤 (𝓣.C g₂) (By2 𝓤 𝓛 B S B meet)) (known₃ : Triple 𝓤 (𝓣.C g₃) (By2 𝓤 𝓛 B (uint w64) (uint w64) start))
        (known₄ : Triple 𝓤 (𝓣.C g₄) (Over2 𝓤 𝓛 S S C F)) (known₅ : Triple 𝓤 (𝓣.C g₅) (By2 𝓤 𝓛 B C B told)) (known₆ : Triple 𝓤 (𝓣.C g₆) (By1 𝓤 𝓛 B Q end)) where
      open 𝓛 use {H}

      module _ (κ : Lft) (q : Share) (b o : ℕ) (γ : GName) (ys : List S.Den) (gn : Room (row S) (length ys)) where
        abbrev n : ℕ
        n = length ys

        abbrev x : Bor (List S.Den) × Unit {0}
        x = (record { ref_ptr = (b, o); now = ys }, tt)

        abbrev at : List Val × Unit {0}
        at = (slice_val (b, o) n ∷ [], tt)

        abbrev Post : Val → SProp 𝓤
        Post = (walk_of 𝓛 ended stayed (clauses 𝓤)).post (((κ, tt), (q, tt), tt, x, at), tt)

        exits : (r : Q.Den) → Ok Q r → r ≡ end (gone ys) → ent 𝓤 (⋆ 𝓛 (‵ (flft κ q) ∷ ‵ ((ShrSlice (named 0) κ (row S)).own_val x.0 at.0) ∷ [])) (Post (Q.val r))
        exits r ok e =
            qed 𝓛 (‵ (flft κ q) ∷ ‵ ((ShrSlice (named 0) κ (row S)).own_val x.0 at.0) ∷ []) ∵
            suffices ! _ (ends_at 𝓛 ended stayed (clauses 𝓤) (((κ, tt), (q, tt), tt, x, at), tt) (Q.val r) r (tt, tt) (tt, tt)) $ says ! (e ∙ is-G ys gn.0) $
            nothing ! $ move ! (1 ∷ 0 ∷ []) $ join ! $ nothing ! $ move ! (2 ∷ 0 ∷ []) $ fjoin ! $ move ! (1 ∷ 0 ∷ []) $
            frame ! $ frame ! $ owned ! (row Q) (Is (row Q)) (Q.makes 𝓛) r _ ok $ done !

        -- how far the loop is: the index, the accumulator, and what holds of them
        abbrev Upto : Type 0
        Upto = (i : ℕ) × ((a : B.Den) × ((i ≤ n) × (Ok B a × (a ≡ gone (past i ys)))))

        abbrev Nearer : Upto → Upto → Type 0
        Nearer j i = j.0 < i.0

        Nearer_wf : WellFounded Nearer
        Nearer_wf = InvImage.wf (λ (i : Upto). i.0) lt-wf_rel.wf

        module _ (l₀ l₁ l₂ l₃ l₄ l₅ l₆ l₇ l₈ l₉ m₀ m₁ : ℕ) where
          abbrev 𝓒 : Calls 𝓤 H
          𝓒 = 𝓣.C

          abbrev Λ : Loops 𝓤 H
          Λ = 𝓣.Λ

          abbrev En : Env 𝓤 H
          En = (Q.ty, l₀) ∷ (list_ty S, l₁) ∷ (B.ty, l₂) ∷ (word, l₃) ∷ (word, l₄) ∷ (S.ty, l₅) ∷ (word, l₆) ∷ (C.ty, l₇) ∷ (ty_bool, l₈) ∷ (word, l₉) ∷ (ty_ptr, m₀) ∷ (S.ty, m₁) ∷ []

          -- the token and the borrow; then the locals, the last first
          abbrev At : Upto → List (Item 𝓤)
          At s = ‵ (flft κ q) ∷ ‵ ((ShrSlice (named 0) κ (row S)).own_val x.0 at.0)
              ∷ ‵ (froom S.ty m₁ 0) ∷ ‵ (fdies S.ty m₁) ∷ ‵ (froom ty_ptr m₀ 0) ∷ ‵ (fdies ty_ptr m₀) ∷ ‵ (froom word l₉ 0) ∷ ‵ (fdies word l₉) ∷ ‵ (froom ty_bool l₈ 0) ∷ ‵ (fdies ty_bool l₈) ∷ ‵ (froom C.ty l₇ 0) ∷ ‵ (fdies C.ty l₇) ∷ ‵ (froom word l₆ 0) ∷ ‵ (fdies word l₆)
              ∷ ‵ (froom S.ty l₅ 0) ∷ ‵ (fdies S.ty l₅) ∷ ‵ (froom word l₄ 0) ∷ ‵ (fdies word l₄) ∷ ‵ (fat full_share word l₃ 0 (vint w64 s.0)) ∷ ‵ (fdies word l₃) ∷ ‵ (fat full_share B.ty l₂ 0 (B.val s.1.0)) ∷ ‵ (fdies B.ty l₂) ∷ ‵ (fat full_share (list_ty S) l₁ 0 (slice_val (b, o) n)) ∷ ‵ (fdies (list_ty S) l₁) ∷ ‵ (froom Q.ty l₀ 0) ∷ ‵ (fdies Q.ty l₀) ∷ []

          -- a turn's postcondition: it ends nearer to 0, or the loop is left and the rest of the body runs
          abbrev Turned : Upto → Out → SProp 𝓤
          Turned s = after_turn 𝓤 H (Below 𝓛 Nearer At s) (after_block 𝓤 H (after_seq 𝓤 H (Wp 𝓤 H 𝓒 Λ En rest (at_return 𝓤 H En Post)) (at_return 𝓤 H En Post)))

          turns : (s : Upto) → Sq 𝓛 (At s) (runs 𝓒 Λ En turn (any_q (Turned s)))
          unfolding after_turn
          turns s =
              assigns ! (bin ! (lit ! tt) (load ! (from ! (stop !)) (look ! 18 refl)) tt) (from ! (stop !)) (init ! 8 refl (tt, tt)) $
              first ! $ branches ! (load ! (from ! (stop !)) (look ! 8 refl))
              (λ less. skips ! $ exec ! 𝓒 Λ En more (any_q (Turned s)) $
              assigns ! (bin ! (load ! (from ! (stop !)) (look ! 18 refl)) (lit ! tt) (above less)) (from ! (stop !)) (init ! 16 refl (tt, record { fits = place-small less })) $
              assigns ! (bin ! (load ! (from ! (stop !)) (look ! 16 refl)) (lit ! small) (record { fits = place-fits (size S.ty) (inside less) gn.1 })) (from ! (stop !)) (init ! 6 refl (tt, record { fits = place-fits (size S.ty) (inside less) gn.1 })) $
              assigns ! (bin ! (load ! (from ! (fld ! refl (stop !))) (look_in ! 22 (sub ! 0 refl (whole !)))) (load ! (from ! (stop !)) (look ! 6 refl)) tt) (from ! (stop !)) (init ! 4 refl (tt, tt)) $
              rewrite ! 4 (λ (at : ℕ). ‵ (fat full_share ty_ptr m₀ 0 (vptr b at))) (sym (place_is (size S.ty) o (s.0 - 1))) refl $
              move ! (1 ∷ []) $ fsplit ! $ move ! (1 ∷ 2 ∷ []) $
              looks_slice ! tt (row S) (S.copied 𝓛) ys b o (λ q'.
              elem_out ! (row S) (Is (row S)) (shows 𝓛 (row S)) (λ y. S.val y ∷ []) S.tells q' ys (s.0 - 1) d b o (inside less) (λ ok.
              -- [list[at]; what it owns; the others; what shuts; the parts of the borrow; the locals]
              assigns ! (of_opd ! (load ! (from ! (hop ! (look ! 8 refl) (stop !))) (look_raw ! 0 refl))) (from ! (stop !)) (init ! 6 refl (S.typed 𝓛 elem _ ok).0) $
              elem_back ! (row S) q' ys (s.0 - 1) d (S.val elem ∷ []) b o (inside less) $
              shuts_slice ! tt (row S) q' ys b o $ move ! (2 ∷ 1 ∷ []) $ fjoin ! $ move ! (1 ∷ []) $
              -- [the token; the borrow; the locals]
              assigns ! (of_opd ! (load ! (from ! (stop !)) (look ! 2 refl))) (from ! (stop !)) (init ! 14 refl (S.typed 𝓛 elem _ ok).0) $
              calls2 ! (fm_of 𝓤 H 𝓛.laws 𝓣) B S B meet known₂ s.1.0 elem s.1.1.1.0 ok (and_then ! (load ! (from ! (stop !)) (look ! 21 refl)) (and_then ! (load ! (from ! (stop !)) (look ! 15 refl)) (no_more !))) (λ is₂.
              land ! (from ! (stop !)) (store ! 20 refl (B.typed 𝓛 acc₂ _ is₂).0) $
              calls2 ! (fm_of 𝓤 H 𝓛.laws 𝓣) B (uint w64) (uint w64) start known₃ acc₂ s.0 is₂ (refl, place_at) (and_then ! (load ! (from ! (stop !)) (look ! 21 refl)) (and_then ! (load ! (from ! (stop !)) (look ! 19 refl)) (no_more !))) (λ is₃.
              land ! (from ! (stop !)) (init ! 12 refl ((uint w64).typed 𝓛 (start acc₂ s.0) _ is₃).0) $
              calls_on2 ! (fm_of 𝓤 H 𝓛.laws 𝓣) S S C F known₄ κ q x.0 (start acc₂ s.0) elem is₃ ok (and_then ! (load ! (from ! (stop !)) (look ! 22 refl)) (and_then ! (load ! (from ! (stop !)) (look ! 12 refl)) (and_then ! (load ! (from ! (stop !)) (look ! 14 refl)) (no_more !)))) (λ is₄.
              land ! (from ! (stop !)) (init ! 10 refl (C.typed 𝓛 answer _ is₄).0) $
              calls2 ! (fm_of 𝓤 H 𝓛.laws 𝓣) B C B told known₅ acc₂ answer is₂ is₄ (and_then ! (load ! (from ! (stop !)) (look ! 21 refl)) (and_then ! (load ! (from ! (stop !)) (look ! 11 refl)) (no_more !))) (λ is₅.
              land ! (from ! (stop !)) (store ! 20 refl (B.typed 𝓛 (told acc₂ answer) _ is₅).0) $
              assigns_last ! (of_opd ! (load ! (from ! (stop !)) (look ! 16 refl))) (from ! (stop !)) (store ! 18 refl (tt, record { fits = place-small less })) $
              forget ! 2 refl $ forget ! 4 refl $ forget ! 6 refl $ forget ! 8 refl $ forget ! 10 refl $ forget ! 12 refl $ forget ! 14 refl $ forget ! 16 refl $
              again ! Nearer At s (next less is₅) (nearer_0 less))))))))
              (λ over. jumps ! $ exec ! 𝓒 Λ En rest (at_ret En Post) $
              calls1 ! (fm_of 𝓤 H 𝓛.laws 𝓣) B Q end known₆ s.1.0 s.1.1.1.0 (and_then ! (load ! (from ! (stop !)) (look ! 21 refl)) (no_more !)) (λ is.
              land ! (from ! (stop !)) (init ! 24 refl (Q.typed 𝓛 (end s.1.0) _ is).0) $
              returns ! (look ! 24 refl) $ forget ! 8 refl $ forget ! 18 refl $ forget ! 20 refl $ forget ! 22 refl $ forget ! 24 refl $
              move ! (24 ∷ 25 ∷ []) $ free1 ! $ move ! (22 ∷ 23 ∷ []) $ free1 ! $ move ! (20 ∷ 21 ∷ []) $ free1 ! $ move ! (18 ∷ 19 ∷ []) $ free1 ! $ move ! (16 ∷ 17 ∷ []) $ free1 ! $ move ! (14 ∷ 15 ∷ []) $ free1 ! $ move ! (12 ∷ 13 ∷ []) $ free1 ! $ move ! (10 ∷ 11 ∷ []) $ free1 ! $ move ! (8 ∷ 9 ∷ []) $ free1 ! $ move ! (6 ∷ 7 ∷ []) $ free1 ! $ move ! (4 ∷ 5 ∷ []) $ free1 ! $ move ! (2 ∷ 3 ∷ []) $ free1 ! $ free0 ! $
              keep ! (0 ∷ 1 ∷ []) $ by ! (exits (end s.1.0) is (ap end (s.1.1.1.1 ∙ ap (λ (k : ℕ). gone (past k ys)) (none_left over))))))
            where
              elem : S.Den
              elem = get_or ys (s.0 - 1) d

              acc₂ : B.Den
              acc₂ = meet s.1.0 elem

              answer : C.Den
              answer = F ys (start acc₂ s.0) elem

              above : T (ltb 0 s.0) → 1 ≤ s.0
              above less = let k = ltb→lt 0 s.0 less in omega arith

              place_at : s.0 < 2 ^ 64
              place_at = omega (arith, s.1.1.0, gn.0)

              place-small : T (ltb 0 s.0) → s.0 - 1 < 2 ^ 64
              place-small less = omega (arith, s.1.1.0, gn.0)

              inside : T (ltb 0 s.0) → s.0 - 1 < n
              inside less = omega (arith, above less, s.1.1.0)

              nearer_0 : T (ltb 0 s.0) → s.0 - 1 < s.0
              nearer_0 less = omega (arith, above less)

              none_left : T (not (ltb 0 s.0)) → s.0 ≡ 0
              none_left over = let k = nltb→le 0 s.0 over in omega arith

              next : T (ltb 0 s.0) → Ok B (told acc₂ answer) → Upto
              next less is = (
                s.0 - 1,
                (
                  told acc₂ answer,
                  (
                    omega (arith, s.1.1.0),
                    (
                      is,
                      subst (λ (a : B.Den). told (meet a elem) (F ys (start (meet a elem) s.0) elem) ≡ gone (past (s.0 - 1) ys)) (sym s.1.1.1.1) (is-more ys gn.0 s.0 (ltb→lt 0 s.0 less) s.1.1.0),
                    ),
                  ),
                ),
              )

        all_there : n ≤ n
        all_there = omega arith

        walk : ent 𝓤 (on_entry 𝓛 ended.signature (κ, tt) (q, tt) x at) (WpFn 𝓤 H 𝓣.C 𝓣.Λ function (slice_val (b, o) n ∷ []) Post)
        walk =
            qed 𝓛 ((‵ (flft κ q) ⊛ ‵ ftrue) ∷ ‵ (owns (ShrSlice (named 0) κ (row S) ∷ []) x at) ∷ []) ∵ split ! $ move ! (2 ∷ []) $ fsplit ! $
            -- [list; no others; κ; true]
            enter ! 𝓣.C 𝓣.Λ function (slice_val (b, o) n ∷ []) _ $
            alloc1 ! (λ l₀. alloc1 ! (λ l₁. alloc1 ! (λ l₂. alloc1 ! (λ l₃. alloc1 ! (λ l₄. alloc1 ! (λ l₅. alloc1 ! (λ l₆. alloc1 ! (λ l₇. alloc1 ! (λ l₈. alloc1 ! (λ l₉. alloc1 ! (λ m₀. alloc1 ! (λ m₁. alloc0 ! $ params1 ! $ pass1 ! (init ! 20 refl (tt, (tt, (record { fits = gn.0 }, tt)))) $ pass0 ! $
            move ! (26 ∷ 24 ∷ []) $ calls0 ! (fm_of 𝓤 H 𝓛.laws 𝓣) B begin known₁ (no_more !) (λ is.
            land ! (from ! (stop !)) (init ! 20 refl (B.typed 𝓛 begin _ is).0) $
            assigns ! (of_opd ! (load ! (from ! (fld ! refl (stop !))) (look_in ! 22 (sub ! 1 refl (whole !))))) (from ! (stop !)) (init ! 18 refl (tt, record { fits = gn.0 })) $
            keep ! (0 ∷ 1 ∷ 2 ∷ 3 ∷ 4 ∷ 5 ∷ 6 ∷ 7 ∷ 8 ∷ 9 ∷ 10 ∷ 11 ∷ 12 ∷ 13 ∷ 14 ∷ 15 ∷ 16 ∷ 17 ∷ 18 ∷ 19 ∷ 20 ∷ 21 ∷ 22 ∷ 23 ∷ 24 ∷ 25 ∷ []) $ first ! $ blocks ! $
            loops ! 𝓣 Nearer Nearer_wf (At l₀ l₁ l₂ l₃ l₄ l₅ l₆ l₇ l₈ l₉ m₀ m₁) (turns l₀ l₁ l₂ l₃ l₄ l₅ l₆ l₇ l₈ l₉ m₀ m₁) (n, (begin, (all_there, (is, sym (ap gone (drop_of_length-le ys all_there) ∙ is_none))))))))))))))))))

      walks : Walks 𝓛 ended stayed (WpFn 𝓤 H 𝓣.C 𝓣.Λ function) (clauses 𝓤)
      walks = walked 𝓛 ended stayed (clauses 𝓤) (WpFn 𝓤 H 𝓣.C 𝓣.Λ function) (λ κs. (shr_slice_vals, tt)) (λ κs. (shr_slice_Tells (named 0) κs.0 (row S), tt))
          (λ κs qs bounds a g are. via 𝓤 _ (fst∗ 𝓤 _ (emp 𝓤)) (walk κs.0 qs.0 a.0.ref_ptr.0 a.0.ref_ptr.1 0 a.0.now are.0.0.1))

      pub meets : Meets 𝓛 ended.signature (WpFn 𝓤 H 𝓣.C 𝓣.Λ function) (closing 𝓛 ended (clauses 𝓤))
      meets = walk_Meets 𝓛 ended stayed (Goes-none_slice 𝓛 1 (0 ∷ []) tt (slot S) yes, tt) (clauses 𝓤)
          (WpFn 𝓤 H 𝓣.C 𝓣.Λ function) (WpFn-mono 𝓤 H 𝓛.laws 𝓣 function) walks
