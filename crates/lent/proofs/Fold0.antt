-- A walk over a lent list of plain records, proved once:
--     pub fn w(list: &[S]) -> Q    ensures  r ≡ G list
--     { let c = f(list); let mut acc = begin(c); let mut i = 0; while i < list.len() { acc = step(acc, list[i]); i += 1; } end(acc) }
-- where `f(list: &[S]) -> C` ensures r ≡ F list, and `begin`, `step` and `end` are by-value functions that ensure what their names say (`Plain.antt`), and G list is end (foldl step (begin (F list)) list).
-- The borrow is looked into once, before the loop, and shut once, after it. The invariant: what is left of the list, folded from the accumulator, is the whole list's fold. The measure is how many elements are left.
--     meets    the MIR of w meets its contract, where the table's entries for the four meet theirs
-- Assumes `Logic`.
use mathlib.Core.Path.{◌≡◌, refl, sym, ap, ◌∙◌}
use mathlib.Core.WellFounded.InvImage
use mathlib.Core.WellFounded.{WellFounded}
use Prim.Native.Nat.{ℕ, ◌<◌, ◌≤◌, ◌^◌, ◌+◌, ◌-◌, zero-le}
use native.Mathlib.Omega.{arith}
use mathlib.Core.List.{List, [], ◌∷◌, foldl}
use lib.ListN.{length, get_or, drop as past}
use lib.Dec.{T, ltb, ltb→lt, nltb→le, lit<}
use lib.WfN.{lt-wf_rel}
use seplogic.Ra.Ura.{Ura}
use base.Fraction.{full_share}
use mir.Syntax.{Callee, Fn, Body, named, w64, ty_bool, ty_ptr, place, copy, int, local, value_local, seq, assign, block, loop, call, return, rv_opd}
use mir.Val.{Val, vint, vptr, bits}
use base.Logic.{SProp, ent, emp, via, fst∗}
use base.Fml.{GName, Lft, Share, ftrue, fat, froom, fdies, flft}
use prog.Memory.{size}
use prog.Wp.{Out, Env, after_seq, after_block, after_turn, Calls, Loops, Wp, at_return, WpFn, Tables}
use types.Logic.{Logic}
use types.Kit.{Item, ‵, ◌⊛◌, ⋆, runs, any_q, at_ret, Sq, ◌$◌, ◌∵◌, !, qed, by, move, keep, split, join, rewrite, fsplit, fjoin, suffices, frame, done}
use types.Run.{look, look_raw, store, init, forget, stop, hop, fld, from, load, lit, of_opd, bin, and_then, no_more, assigns, assigns_last, land, first, skips, jumps, blocks, branches, returns, enter, alloc1, alloc0, params1, pass1, pass0, free1, free0, exec, Below, again, loops}
use types.Part.{whole, sub, look_in}
use sound.WpLaws.{fm_of, WpFn-mono}
use denote.Exit.{yes}
use denote.RattleType.{owns}
use denote.Laws.{Is, shows}
use denote.Opens.{Shut}
use denote.Ref.{Bor}
use denote.Slice.{slice_val, ShrSlice, Room, shr_slice_vals, shr_slice_Tells}
use denote.Index.{place_is, row as elements, elem_out, elem_back, looks_slice, shuts_slice}
use denote.Steps.{owned, nothing}
use denote.Triple.Entry.{on_entry}
use denote.Triple.Spec.{Meets}
use denote.Triple.Statement.{Triple}
use denote.Triple.Clauses.{Clauses, Ended, closing}
use denote.Triple.Walked.{says, Stays, stay_none_slice, walk_of, Goes-none_slice, Walks, ends_at, walked, walk_Meets}
use Rattle.lent.proofs.Places.{word, place-fits, next_fits, nearer, one_more, none_left}
use Rattle.lent.proofs.Plain.{Cell, row, slot, Ok, By1, By2, calls1, calls2}
use Rattle.lent.proofs.Loop.{more_of, turn_of}
use Rattle.lent.proofs.On.{list_ty, on0, tells0, Over0, calls_on0}

-- S is the element, C what is asked of the whole list first, B the accumulator, Q the result. d is any element, and `small` is `tt`
module _ (S C B Q : Cell) (F : List S.Den → C.Den) (begin : C.Den → B.Den) (step : B.Den → S.Den → B.Den) (end : B.Den → Q.Den) (G : List S.Den → Q.Den) (is-G : (ys : List S.Den) → end (foldl step (begin (F ys)) ys) ≡ G ys) (d : S.Den) (small : T (ltb (size S.ty) (2 ^ bits w64))) where
  abbrev ended : Ended
  ended = on0 S Q

  abbrev clauses : {M : Type 1} (𝓤 : Ura M) → Clauses 𝓤 ended
  clauses 𝓤 = tells0 𝓤 S Q G

  abbrev stayed : Stays ended.signature.params ended.kept
  stayed = (stay_none_slice (0 ∷ []) tt (slot S) yes, tt)

  -- the MIR. The locals: the result, list, c, acc, i, a number, the test, the place of `list[i]`, and what is read there
  abbrev more : Callee → Body
  more = more_of S 3 4 5 6 7 8

  abbrev turn : Callee → Body
  turn = turn_of S 3 4 5 6 7 8

  abbrev rest : Callee → Body
  rest g = seq (call g (copy (place 3 []) ∷ []) (place 0 [])) return

  abbrev function : Callee → Callee → Callee → Callee → Fn
  function g₀ g₁ g₂ g₃ = record {
    lifetimes = 1;
    outlives = [];
    ty_params = [];
    givens = 0;
    params = 1;
    locals = local Q.ty value_local ∷ local (list_ty S) value_local ∷ local C.ty value_local ∷ local B.ty value_local ∷ local word value_local ∷ local word value_local ∷ local ty_bool value_local ∷ local ty_ptr value_local ∷ local S.ty value_local ∷ [];
    body = seq (call g₀ (copy (place 1 []) ∷ []) (place 2 [])) (seq (call g₁ (copy (place 2 []) ∷ []) (place 3 [])) (seq (assign (place 4 []) (rv_opd (int w64 0))) (seq (block (loop (turn g₂))) (rest g₃))));
  }

  module _ {M : Type 1} {𝓤 : Ura M} (𝓛 : Logic 𝓤) (𝓣 : Tables 𝓤 𝓛.H) (g₀ g₁ g₂ g₃ : Callee) (known₀ : Triple 𝓤 (𝓣.C g₀) (Over0 𝓤 𝓛 S C F)) (known₁ : Triple 𝓤 (𝓣.C g₁) (By1 𝓤 𝓛 C B begin)) (known₂ : Triple 𝓤 (𝓣.C g₂) (By2 𝓤 𝓛 B S B step)) (known₃ : Triple 𝓤 (𝓣.C g₃) (By1 𝓤 𝓛 B Q end)) where
    open 𝓛 use {H}

    module _ (κ : Lft) (q : Share) (b o : ℕ) (γ : GName) (ys : List S.Den) (gn : Room (row S) (length ys)) where
      abbrev n : ℕ
      n = length ys

      abbrev all : B.Den
      all = foldl step (begin (F ys)) ys

      abbrev x : Bor (List S.Den) × Unit {0}
      x = (record { ref_ptr = (b, o); now = ys }, tt)

      abbrev at : List Val × Unit {0}
      at = (slice_val (b, o) n ∷ [], tt)

      abbrev Post : Val → SProp 𝓤
      Post = (walk_of 𝓛 ended stayed (clauses 𝓤)).post (((κ, tt), (q, tt), tt, x, at), tt)

      exits : (r : Q.Den) → Ok Q r → r ≡ end all → ent 𝓤 (⋆ 𝓛 (‵ (flft κ q) ∷ ‵ ((ShrSlice (named 0) κ (row S)).own_val x.0 at.0) ∷ [])) (Post (Q.val r))
      exits r ok e =
          qed 𝓛 (‵ (flft κ q) ∷ ‵ ((ShrSlice (named 0) κ (row S)).own_val x.0 at.0) ∷ []) ∵
          suffices ! _ (ends_at 𝓛 ended stayed (clauses 𝓤) (((κ, tt), (q, tt), tt, x, at), tt) (Q.val r) r (tt, tt) (tt, tt)) $ says ! (e ∙ is-G ys) $
          nothing ! $ move ! (1 ∷ 0 ∷ []) $ join ! $ nothing ! $ move ! (2 ∷ 0 ∷ []) $ fjoin ! $ move ! (1 ∷ 0 ∷ []) $
          frame ! $ frame ! $ owned ! (row Q) (Is (row Q)) (Q.makes 𝓛) r _ ok $ done !

      -- how far the loop is: the index, the accumulator, and what holds of them
      abbrev Upto : Type 0
      Upto = (i : ℕ) × ((a : B.Den) × ((i ≤ n) × (Ok B a × (foldl step a (past i ys) ≡ all))))

      abbrev Nearer : Upto → Upto → Type 0
      Nearer j i = n - j.0 < n - i.0

      Nearer_wf : WellFounded Nearer
      Nearer_wf = InvImage.wf (λ (i : Upto). n - i.0) lt-wf_rel.wf

      module _ (q' : Share) (l₀ l₁ l₂ l₃ l₄ l₅ l₆ l₇ l₈ : ℕ) where
        abbrev 𝓒 : Calls 𝓤 H
        𝓒 = 𝓣.C

        abbrev Λ : Loops 𝓤 H
        Λ = 𝓣.Λ

        abbrev En : Env 𝓤 H
        En = (Q.ty, l₀) ∷ (list_ty S, l₁) ∷ (C.ty, l₂) ∷ (B.ty, l₃) ∷ (word, l₄) ∷ (word, l₅) ∷ (ty_bool, l₆) ∷ (ty_ptr, l₇) ∷ (S.ty, l₈) ∷ []

        -- the share of the list, what shuts it, and the borrow; then the locals, the last first
        abbrev At : Upto → List (Item 𝓤)
        At s = ‵ (elements (row S) q' ys b o) ∷ Shut 𝓛 κ q (elements (row S) q' ys b o) ∷ ‵ ((ShrSlice (named 0) κ (row S)).own_val x.0 at.0)
            ∷ ‵ (froom S.ty l₈ 0) ∷ ‵ (fdies S.ty l₈) ∷ ‵ (froom ty_ptr l₇ 0) ∷ ‵ (fdies ty_ptr l₇) ∷ ‵ (froom ty_bool l₆ 0) ∷ ‵ (fdies ty_bool l₆) ∷ ‵ (froom word l₅ 0) ∷ ‵ (fdies word l₅)
            ∷ ‵ (fat full_share word l₄ 0 (vint w64 s.0)) ∷ ‵ (fdies word l₄) ∷ ‵ (fat full_share B.ty l₃ 0 (B.val s.1.0)) ∷ ‵ (fdies B.ty l₃) ∷ ‵ (fat full_share C.ty l₂ 0 (C.val (F ys))) ∷ ‵ (fdies C.ty l₂)
            ∷ ‵ (fat full_share (list_ty S) l₁ 0 (slice_val (b, o) n)) ∷ ‵ (fdies (list_ty S) l₁) ∷ ‵ (froom Q.ty l₀ 0) ∷ ‵ (fdies Q.ty l₀) ∷ []

        -- a turn's postcondition: it ends nearer to n, or the loop is left and the rest of the body runs
        abbrev Turned : Upto → Out → SProp 𝓤
        Turned s = after_turn 𝓤 H (Below 𝓛 Nearer At s) (after_block 𝓤 H (after_seq 𝓤 H (Wp 𝓤 H 𝓒 Λ En (rest g₃) (at_return 𝓤 H En Post)) (at_return 𝓤 H En Post)))

        turns : (s : Upto) → Sq 𝓛 (At s) (runs 𝓒 Λ En (turn g₂) (any_q (Turned s)))
        unfolding after_turn
        turns s =
            assigns ! (of_opd ! (load ! (from ! (fld ! refl (stop !))) (look_in ! 17 (sub ! 1 refl (whole !))))) (from ! (stop !)) (init ! 9 refl (tt, record { fits = gn.0 })) $
            assigns ! (bin ! (load ! (from ! (stop !)) (look ! 11 refl)) (load ! (from ! (stop !)) (look ! 9 refl)) tt) (from ! (stop !)) (init ! 7 refl (tt, tt)) $
            first ! $ branches ! (load ! (from ! (stop !)) (look ! 7 refl))
            (λ less. skips ! $ exec ! 𝓒 Λ En (more g₂) (any_q (Turned s)) $
            assigns ! (bin ! (load ! (from ! (stop !)) (look ! 11 refl)) (lit ! small) (record { fits = place-fits (size S.ty) (less_than less) gn.1 })) (from ! (stop !)) (store ! 9 refl (tt, record { fits = place-fits (size S.ty) (less_than less) gn.1 })) $
            assigns ! (bin ! (load ! (from ! (fld ! refl (stop !))) (look_in ! 17 (sub ! 0 refl (whole !)))) (load ! (from ! (stop !)) (look ! 9 refl)) tt) (from ! (stop !)) (init ! 5 refl (tt, tt)) $
            rewrite ! 5 (λ (at : ℕ). ‵ (fat full_share ty_ptr l₇ 0 (vptr b at))) (sym (place_is (size S.ty) o s.0)) refl $
            elem_out ! (row S) (Is (row S)) (shows 𝓛 (row S)) (λ y. S.val y ∷ []) S.tells q' ys s.0 d b o (less_than less) (λ ok.
            -- [list[i]; what it owns; the others; what shuts; the borrow; the locals]
            assigns ! (of_opd ! (load ! (from ! (hop ! (look ! 7 refl) (stop !))) (look_raw ! 0 refl))) (from ! (stop !)) (init ! 5 refl (S.typed 𝓛 elem _ ok).0) $
            elem_back ! (row S) q' ys s.0 d (S.val elem ∷ []) b o (less_than less) $
            calls2 ! (fm_of 𝓤 H 𝓛.laws 𝓣) B S B step known₂ s.1.0 elem s.1.1.1.0 ok (and_then ! (load ! (from ! (stop !)) (look ! 14 refl)) (and_then ! (load ! (from ! (stop !)) (look ! 4 refl)) (no_more !))) (λ is.
            land ! (from ! (stop !)) (store ! 13 refl (B.typed 𝓛 (step s.1.0 elem) _ is).0) $
            assigns_last ! (bin ! (load ! (from ! (stop !)) (look ! 11 refl)) (lit ! tt) (record { fits = next_fits (less_than less) gn.0 })) (from ! (stop !)) (store ! 11 refl (tt, record { fits = next_fits (less_than less) gn.0 })) $
            forget ! 3 refl $ forget ! 5 refl $ forget ! 7 refl $ forget ! 9 refl $
            again ! Nearer At s (next less is) (nearer (less_than less)))))
            (λ over. jumps ! $ exec ! 𝓒 Λ En (rest g₃) (at_ret En Post) $
            calls1 ! (fm_of 𝓤 H 𝓛.laws 𝓣) B Q end known₃ s.1.0 s.1.1.1.0 (and_then ! (load ! (from ! (stop !)) (look ! 14 refl)) (no_more !)) (λ is.
            land ! (from ! (stop !)) (init ! 19 refl (Q.typed 𝓛 (end s.1.0) _ is).0) $ shuts_slice ! tt (row S) q' ys b o $
            returns ! (look ! 18 refl) $ forget ! 6 refl $ forget ! 8 refl $ forget ! 10 refl $ forget ! 12 refl $ forget ! 14 refl $ forget ! 16 refl $ forget ! 18 refl $
            move ! (18 ∷ 19 ∷ []) $ free1 ! $ move ! (16 ∷ 17 ∷ []) $ free1 ! $ move ! (14 ∷ 15 ∷ []) $ free1 ! $ move ! (12 ∷ 13 ∷ []) $ free1 ! $ move ! (10 ∷ 11 ∷ []) $ free1 ! $ move ! (8 ∷ 9 ∷ []) $ free1 ! $ move ! (6 ∷ 7 ∷ []) $ free1 ! $ move ! (4 ∷ 5 ∷ []) $ free1 ! $ move ! (2 ∷ 3 ∷ []) $ free1 ! $ free0 ! $
            keep ! (0 ∷ 1 ∷ []) $ by ! (exits (end s.1.0) is (ap end (none_left step d ys s.0 s.1.0 all (nltb→le s.0 n over) s.1.1.1.1)))))
          where
            elem : S.Den
            elem = get_or ys s.0 d

            less_than : T (ltb s.0 n) → s.0 < n
            less_than less = ltb→lt s.0 n less

            next : T (ltb s.0 n) → Ok B (step s.1.0 elem) → Upto
            next less is = (s.0 + 1, (step s.1.0 elem, (omega (arith, less_than less), (is, one_more step d ys s.0 s.1.0 all (less_than less) s.1.1.1.1))))

    -- the walk stands within the law: where it does not fit the MIR, it is the law that falls
    pub meets : Meets 𝓛 ended.signature (WpFn 𝓤 H 𝓣.C 𝓣.Λ (function g₀ g₁ g₂ g₃)) (closing 𝓛 ended (clauses 𝓤))
    meets = walk_Meets 𝓛 ended stayed (Goes-none_slice 𝓛 1 (0 ∷ []) tt (slot S) yes, tt) (clauses 𝓤)
        (WpFn 𝓤 H 𝓣.C 𝓣.Λ (function g₀ g₁ g₂ g₃)) (WpFn-mono 𝓤 H 𝓛.laws 𝓣 (function g₀ g₁ g₂ g₃)) walks
      where
        walk : (κ : Lft) (q : Share) (b o : ℕ) (γ : GName) (ys : List S.Den) (gn : Room (row S) (length ys)) → ent 𝓤 (on_entry 𝓛 ended.signature (κ, tt) (q, tt) (x κ q b o γ ys gn) (at κ q b o γ ys gn)) (WpFn 𝓤 H 𝓣.C 𝓣.Λ (function g₀ g₁ g₂ g₃) (slice_val (b, o) (length ys) ∷ []) (Post κ q b o γ ys gn))
        walk κ q b o γ ys gn =
            qed 𝓛 ((‵ (flft κ q) ⊛ ‵ ftrue) ∷ ‵ (owns (ShrSlice (named 0) κ (row S) ∷ []) (x κ q b o γ ys gn) (at κ q b o γ ys gn)) ∷ []) ∵ split ! $ move ! (2 ∷ []) $ fsplit ! $
            -- [list; the others'; κ; true]
            enter ! 𝓣.C 𝓣.Λ (function g₀ g₁ g₂ g₃) (slice_val (b, o) (length ys) ∷ []) _ $
            alloc1 ! (λ l₀. alloc1 ! (λ l₁. alloc1 ! (λ l₂. alloc1 ! (λ l₃. alloc1 ! (λ l₄. alloc1 ! (λ l₅. alloc1 ! (λ l₆. alloc1 ! (λ l₇. alloc1 ! (λ l₈. alloc0 ! $ params1 ! $ pass1 ! (init ! 14 refl (tt, (tt, (record { fits = gn.0 }, tt)))) $ pass0 ! $
            move ! (20 ∷ 18 ∷ []) $ calls_on0 ! (fm_of 𝓤 H 𝓛.laws 𝓣) S C F known₀ κ q (x κ q b o γ ys gn).0 (and_then ! (load ! (from ! (stop !)) (look ! 16 refl)) (no_more !)) (λ is_c.
            -- [κ; list; the locals]
            land ! (from ! (stop !)) (init ! 14 refl (C.typed 𝓛 (F ys) _ is_c).0) $
            calls1 ! (fm_of 𝓤 H 𝓛.laws 𝓣) C B begin known₁ (F ys) is_c (and_then ! (load ! (from ! (stop !)) (look ! 15 refl)) (no_more !)) (λ is.
            land ! (from ! (stop !)) (init ! 12 refl (B.typed 𝓛 (begin (F ys)) _ is).0) $
            assigns ! (of_opd ! (lit ! tt)) (from ! (stop !)) (init ! 10 refl (tt, record { fits = lit< tt })) $
            move ! (1 ∷ []) $ fsplit ! $ move ! (1 ∷ 2 ∷ []) $
            looks_slice ! tt (row S) (S.copied 𝓛) ys b o (λ q'.
            move ! (3 ∷ 2 ∷ []) $ fjoin ! $
            keep ! (1 ∷ 2 ∷ 0 ∷ 3 ∷ 4 ∷ 5 ∷ 6 ∷ 7 ∷ 8 ∷ 9 ∷ 10 ∷ 11 ∷ 12 ∷ 13 ∷ 14 ∷ 15 ∷ 16 ∷ 17 ∷ 18 ∷ 19 ∷ 20 ∷ []) $ first ! $ blocks ! $
            loops ! 𝓣 (Nearer κ q b o γ ys gn) (Nearer_wf κ q b o γ ys gn) (At κ q b o γ ys gn q' l₀ l₁ l₂ l₃ l₄ l₅ l₆ l₇ l₈) (turns κ q b o γ ys gn q' l₀ l₁ l₂ l₃ l₄ l₅ l₆ l₇ l₈) (0, ((begin (F ys)), (zero-le, (is, refl))))))))))))))))

        walks : Walks 𝓛 ended stayed (WpFn 𝓤 H 𝓣.C 𝓣.Λ (function g₀ g₁ g₂ g₃)) (clauses 𝓤)
        walks = walked 𝓛 ended stayed (clauses 𝓤) (WpFn 𝓤 H 𝓣.C 𝓣.Λ (function g₀ g₁ g₂ g₃)) (λ κs. (shr_slice_vals, tt)) (λ κs. (shr_slice_Tells (named 0) κs.0 (row S), tt))
            (λ κs qs bounds a g are. via 𝓤 _ (fst∗ 𝓤 _ (emp 𝓤)) (walk κs.0 qs.0 a.0.ref_ptr.0 a.0.ref_ptr.1 0 a.0.now are.0.0.1))
