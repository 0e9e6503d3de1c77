-- A lent list of plain records that is walked, and then changed at one place, proved once:
--     pub fn w(list: &mut [S], p: P) -> Q
--     ensures  Gives1 r (the list at exit) (left list p),   whose parts are ans D and set list (at D) (elem D), where D is end (foldl step (begin p (F list)) list)
--     { let c = f(list); let mut acc = begin(p, c); let mut i = 0; while i < list.len() { acc = step(acc, list[i]); i += 1; }
--       let d = end(acc); let at = d.at; if at < list.len() { list[at] = d.elem; } d.answer }
-- where `f(list: &[S]) -> C` ensures r ≡ F list, and is lent the list for the time of its call, and `begin`, `step` and `end` are by-value functions (`Plain.antt`), and `end` returns a struct of an answer Q, a usize and an element. A place past the end changes nothing: `set` is so.
--     Placed Q S       that struct.        placed   it as a cell
--     meets            the MIR of w meets its contract, where the table's entries for the four meet theirs
-- Assumes `Logic`.
use mathlib.Core.Path.{◌≡◌, refl, sym, ap, subst, ◌∙◌}
use mathlib.Core.WellFounded.InvImage
use mathlib.Core.WellFounded.{WellFounded}
use Prim.Native.Nat.{ℕ, ◌<◌, ◌≤◌, ◌^◌, ◌+◌, ◌-◌, zero-le}
use native.Mathlib.Omega.{arith}
use mathlib.Core.List.{List, [], ◌∷◌, foldl}
use lib.ListN.{length, get_or, set, length-set, drop as past}
use lib.Seq.{set_out}
use lib.Dec.{T, ltb, ltb→lt, nltb→le, lit<}
use lib.WfN.{lt-wf_rel}
use seplogic.Ra.Ura.{Ura}
use base.Fraction.{full_share}
use mir.Syntax.{Callee, Sym, Ty, Written, Fn, Body, named, erased, mut, imm, w64, ty_int, ty_bool, ty_ptr, ty_ref, ty_struct, tcons, tnil, deref, field, place, unsigned, copy, int, local, value_local, skip as skipᴹ, seq, assign, block, loop, cond, call, return, rv_opd, addr_of, aggregate, op2, mul, lt, offset}
use mir.Val.{Val, vint, vptr, vstruct, vcons, vnil, bits}
use base.Logic.{SProp, ent, emp, sep, via, fst∗}
use base.Stored.{Coded}
use base.Fml.{Fml, GName, Lft, Share, ftrue, fat, froom, fdies, flft, fobs, fauth, fbor, fobor, flent}
use prog.Memory.{size}
use prog.Wp.{Out, Env, after_seq, after_block, after_turn, Calls, Loops, Wp, at_return, WpFn, Tables}
use types.Logic.{Logic, sem}
use contract.Monad.{fact}
use types.Kit.{Item, ‵, ◌⊛◌, ⋆, later, runs, any_q, at_ret, Sq, ◌$◌, ◌∵◌, !, qed, by, move, keep, drop, use2, split, join, rewrite, fsplit, fjoin, feq_i, suffices, frame, await, done}
use types.Run.{look, look_raw, store, store_raw, init, forget, stop, hop, fld, from, load, lit, addr, of_opd, bin, and_then, no_more, assigns, assigns_last, land, first, skips, jumps, blocks, branches, returns, enter, alloc1, alloc0, params1, pass1, pass0, free1, free0, exec, Below, again, loops}
use types.Part.{agg, whole, sub, look_in}
use types.Share.{arr_parts}
use types.Tokens.{lft_new, lft_end, lent_back}
use sound.WpLaws.{fm_of, WpFn-mono}
use denote.Exit.{yes}
use denote.RattleType.{owns}
use denote.Shadow.{shadow, pure_i}
use denote.Laws.{Typed, Is, shows}
use denote.Lend.{Held}
use denote.Memory.{pointee, shares}
use denote.Ref.{Bor, MutBor}
use denote.Slice.{slice_ty, slice_val, MutSlice, ShrSlice, heres, Room, mut_slice_vals, mut_slice_Tells, mut_slice_at, coded_holeys}
use denote.Index.{place_is, row as elements, elem_out, elem_back, elem_put, opens_slice, closes_slice}
use denote.Signature.{Signature, mut_slice_of}
use denote.Steps.{owned, nothing}
use denote.Triple.Entry.{on_entry}
use denote.Triple.Spec.{Meets}
use denote.Triple.Statement.{Triple}
use denote.Triple.Clauses.{Clauses, Ended, closing}
use denote.Triple.Walked.{says, Stays, stay_slice, stay_none, walk_of, Goes-slice, Goes-none, Walks, ends_at, walked, walk_Meets}
use Rattle.numbers.specs.Promise.{Left1, Gives1}
use Rattle.lent.proofs.Places.{word, place-fits, next_fits, nearer, one_more, none_left}
use Rattle.lent.proofs.Handed.{lends_list}
use Rattle.lent.proofs.Plain.{Cell, whole_shr, whole_shr_laws, whole_copied, row, slot, Ok, By1, By2, calls1, calls2}
use Rattle.lent.proofs.Loop.{more_of, turn_of}
use Rattle.lent.proofs.On.{Over0, calls_on0}

-- a struct of an answer, a place and an element
pub record Placed (Q S : Cell) : Type 2 where
  pub name : Sym
  pub Den : Type 0
  pub written : Written
  pub reaches : List (Written × List Ty)
  pub own : Den → List Val → Fml
  pub coded : Coded Den
  pub ans : Den → Q.Den
  pub at : Den → ℕ
  pub elem : Den → S.Den
  pub tells : (m : Den) (vs : List Val) → shadow (own m vs) → vs ≡ vstruct (vcons (Q.val (ans m)) (vcons (vint w64 (at m)) (vcons (S.val (elem m)) vnil))) ∷ []
  pub typed : {M : Type 1} {𝓤 : Ura M} (𝓛 : Logic 𝓤) → (m : Den) (vs : List Val) → shadow (own m vs) → Typed (ty_struct name (tcons Q.ty (tcons (ty_int w64) (tcons S.ty tnil))) ∷ []) vs
  pub makes : {M : Type 1} {𝓤 : Ura M} (𝓛 : Logic 𝓤) → (m : Den) (vs : List Val) → shadow (own m vs) → ent 𝓤 (emp 𝓤) (sem 𝓛 (own m vs))
  pub twice : {M : Type 1} {𝓤 : Ura M} (𝓛 : Logic 𝓤) → (m : Den) (vs : List Val) → ent 𝓤 (sem 𝓛 (own m vs)) (sep 𝓤 (sem 𝓛 (own m vs)) (sem 𝓛 (own m vs)))
  pub is_ans : (m : Den) (vs : List Val) → shadow (own m vs) → Ok Q (ans m)
  pub is_at : (m : Den) (vs : List Val) → shadow (own m vs) → at m < 2 ^ 64
  pub is_elem : (m : Den) (vs : List Val) → shadow (own m vs) → Ok S (elem m)

abbrev pub placed : {Q S : Cell} → Placed Q S → Cell
placed {Q} {S} D = record {
  Den = D.Den;
  ty = ty_struct D.name (tcons Q.ty (tcons (ty_int w64) (tcons S.ty tnil)));
  written = D.written;
  reaches = D.reaches;
  lives = [];
  own = D.own;
  coded = D.coded;
  shr_at = whole_shr (ty_struct D.name (tcons Q.ty (tcons (ty_int w64) (tcons S.ty tnil)))) D.own;
  val = λ m. vstruct (vcons (Q.val (D.ans m)) (vcons (vint w64 (D.at m)) (vcons (S.val (D.elem m)) vnil)));
  tells = D.tells;
  typed = D.typed;
  makes = D.makes;
  twice = D.twice;
  shr_laws = whole_shr_laws (ty_struct D.name (tcons Q.ty (tcons (ty_int w64) (tcons S.ty tnil)))) D.own;
  copied = λ 𝓛. whole_copied 𝓛 (ty_struct D.name (tcons Q.ty (tcons (ty_int w64) (tcons S.ty tnil)))) D.written D.reaches D.own D.coded (λ m. vstruct (vcons (Q.val (D.ans m)) (vcons (vint w64 (D.at m)) (vcons (S.val (D.elem m)) vnil)))) D.tells (D.twice 𝓛);
}

-- S is the element, P the parameter, C what is asked of the whole list first, B the accumulator, Q the answer. d is any element, and `small` is `tt`
module _ (S P C B Q : Cell) (D : Placed Q S) (F : List S.Den → C.Den) (begin : P.Den → C.Den → B.Den) (step : B.Den → S.Den → B.Den) (end : B.Den → D.Den)
    (left : List S.Den → P.Den → Left1 Q.Den (List S.Den))
    (is-left : (ys : List S.Den) (p : P.Den) → length ys < 2 ^ 64 → Gives1 (D.ans (end (foldl step (begin p (F ys)) ys))) (set ys (D.at (end (foldl step (begin p (F ys)) ys))) (D.elem (end (foldl step (begin p (F ys)) ys)))) (left ys p)) (d : S.Den) (small : T (ltb (size S.ty) (2 ^ bits w64))) where
  abbrev ty_d : Ty
  ty_d = (placed D).ty

  abbrev signature : Signature
  signature = record { lifetimes = 1; outlives = []; params = mut_slice_of (0 ∷ []) tt (slot S) ∷ slot P ∷ []; result = slot Q }

  abbrev ended : Ended
  ended = record { signature = signature; kept = (yes, (yes, tt)) }

  abbrev clauses : {M : Type 1} (𝓤 : Ura M) → Clauses 𝓤 ended
  clauses 𝓤 κs a = record { ghost = Unit {0}; requires = λ _. emp 𝓤; ensures = λ _ r e. fact 𝓤 (Gives1 r e.0.now (left a.0.now a.1.0)) }

  abbrev stayed : Stays ended.signature.params ended.kept
  stayed = (stay_slice (0 ∷ []) tt (slot S), (stay_none (λ _. row P) yes, tt))

  abbrev slice : Ty
  slice = slice_ty (ty_ref (named 0) mut (pointee S.written))

  -- the list as it is lent to f
  abbrev lent : Ty
  lent = ty_ref erased imm (pointee S.written)

  abbrev lent_slice : Ty
  lent_slice = slice_ty lent

  -- the MIR
  abbrev more : Callee → Body
  more = more_of S 4 5 10 11 12 13

  abbrev turn : Callee → Body
  turn = turn_of S 4 5 10 11 12 13

  abbrev last : Body
  last = seq (assign (place 0 []) (rv_opd (copy (place 6 (field 0 ∷ []))))) return

  abbrev puts : Body
  puts = seq (assign (place 16 []) (op2 (mul unsigned) (copy (place 7 [])) (int w64 (size S.ty))))
      (seq (assign (place 17 []) (op2 offset (copy (place 1 (field 0 ∷ []))) (copy (place 16 []))))
      (assign (place 17 (deref S.ty ∷ [])) (rv_opd (copy (place 6 (field 2 ∷ []))))))

  abbrev rest : Callee → Body
  rest g = seq (call g (copy (place 4 []) ∷ []) (place 6 []))
      (seq (assign (place 7 []) (rv_opd (copy (place 6 (field 1 ∷ [])))))
      (seq (assign (place 14 []) (rv_opd (copy (place 1 (field 1 ∷ [])))))
      (seq (assign (place 15 []) (op2 (lt unsigned) (copy (place 7 [])) (copy (place 14 []))))
      (seq (cond (copy (place 15 [])) puts skipᴹ) last))))

  abbrev function : Callee → Callee → Callee → Callee → Fn
  function g₀ g₁ g₂ g₃ = record {
    lifetimes = 1;
    outlives = [];
    ty_params = [];
    givens = 0;
    params = 2;
    locals = local Q.ty value_local ∷ local slice value_local ∷ local P.ty value_local ∷ local C.ty value_local ∷ local B.ty value_local ∷ local word value_local ∷ local ty_d value_local ∷ local word value_local ∷ local lent value_local ∷ local lent_slice value_local ∷ local word value_local ∷ local ty_bool value_local ∷ local ty_ptr value_local ∷ local S.ty value_local ∷ local word value_local ∷ local ty_bool value_local ∷ local word value_local ∷ local ty_ptr value_local ∷ [];
    body = seq (assign (place 8 []) (addr_of (place 1 (field 0 ∷ deref S.ty ∷ []))))
        (seq (assign (place 9 []) (aggregate (copy (place 8 []) ∷ copy (place 1 (field 1 ∷ [])) ∷ [])))
        (seq (call g₀ (copy (place 9 []) ∷ []) (place 3 []))
        (seq (call g₁ (copy (place 2 []) ∷ copy (place 3 []) ∷ []) (place 4 []))
        (seq (assign (place 5 []) (rv_opd (int w64 0))) (seq (block (loop (turn g₂))) (rest g₃))))));
  }

  module _ {M : Type 1} {𝓤 : Ura M} (𝓛 : Logic 𝓤) (𝓣 : Tables 𝓤 𝓛.H) (g₀ g₁ g₂ g₃ : Callee) (known₀ : Triple 𝓤 (𝓣.C g₀) (Over0 𝓤 𝓛 S C F)) (known₁ : Triple 𝓤 (𝓣.C g₁) (By2 𝓤 𝓛 P C B begin)) (known₂ : Triple 𝓤 (𝓣.C g₂) (By2 𝓤 𝓛 B S B step)) (known₃ : Triple 𝓤 (𝓣.C g₃) (By1 𝓤 𝓛 B (placed D) end)) where
    open 𝓛 use {H}

    module _ (κ : Lft) (q : Share) (b o : ℕ) (γ : GName) (ys : List S.Den) (gn : Room (row S) (length ys)) (p : P.Den) (is-p : Ok P p) where
      abbrev n : ℕ
      n = length ys

      abbrev all : B.Den
      all = foldl step (begin p (F ys)) ys

      abbrev x : MutBor (List S.Den) × (P.Den × Unit {0})
      x = (record { ref_ptr = (b, o); ghost_name = γ; now = ys }, (p, tt))

      abbrev at : List Val × (List Val × Unit {0})
      at = (slice_val (b, o) n ∷ [], (P.val p ∷ [], tt))

      abbrev Post : Val → SProp 𝓤
      Post = (walk_of 𝓛 ended stayed (clauses 𝓤)).post (((κ, tt), (q, tt), tt, x, at), tt)

      exits : (r : Q.Den) (zs : List S.Den) → Ok Q r → length zs ≡ n → r ≡ D.ans (end all) → zs ≡ set ys (D.at (end all)) (D.elem (end all))
          → ent 𝓤 (⋆ 𝓛 (‵ (fobs γ ((coded_holeys (row S)).code (heres (row S) zs))) ∷ ‵ (fbor κ (Held (row S) (length zs) b o γ)) ∷ ‵ (flft κ q) ∷ [])) (Post (Q.val r))
      exits r zs ok len e₁ e₂ =
          qed 𝓛 (‵ (fobs γ ((coded_holeys (row S)).code (heres (row S) zs))) ∷ ‵ (fbor κ (Held (row S) (length zs) b o γ)) ∷ ‵ (flft κ q) ∷ []) ∵
          suffices ! _ (ends_at 𝓛 ended stayed (clauses 𝓤) (((κ, tt), (q, tt), tt, x, at), tt) (Q.val r) r (zs, (tt, tt)) (len, (tt, tt))) $ says ! (record { result = e₁ ∙ (is-left ys p gn.0).result; first = e₂ ∙ (is-left ys p gn.0).first }) $
          nothing ! $ move ! (3 ∷ 0 ∷ []) $ join ! $ frame ! $ fjoin ! $
          pure_i ! (mut_slice_at (row S) (record { ref_ptr = (b, o); ghost_name = γ; now = zs }) at.0) (tt, (tt, tt)) (ap (λ (m : ℕ). slice_val (b, o) m ∷ []) (sym len), subst (Room (row S)) (sym len) gn) $ fjoin ! $
          nothing ! $ owned ! (row P) (Is (row P)) (P.makes 𝓛) p _ is-p $ fjoin ! $ move ! (1 ∷ 0 ∷ []) $ fjoin ! $ frame ! $
          owned ! (row Q) (Is (row Q)) (Q.makes 𝓛) r _ ok $ done !

      -- how far the loop is: the index, the accumulator, and what holds of them
      abbrev Upto : Type 0
      Upto = (i : ℕ) × ((a : B.Den) × ((i ≤ n) × (Ok B a × (foldl step a (past i ys) ≡ all))))

      abbrev Nearer : Upto → Upto → Type 0
      Nearer j i = n - j.0 < n - i.0

      Nearer_wf : WellFounded Nearer
      Nearer_wf = InvImage.wf (λ (i : Upto). n - i.0) lt-wf_rel.wf

      module _ (l₀ l₁ l₂ l₃ l₄ l₅ l₆ l₇ l₈ l₉ m₀ m₁ m₂ m₃ m₄ m₅ m₆ m₇ : ℕ) where
        abbrev 𝓒 : Calls 𝓤 H
        𝓒 = 𝓣.C

        abbrev Λ : Loops 𝓤 H
        Λ = 𝓣.Λ

        abbrev En : Env 𝓤 H
        En = (Q.ty, l₀) ∷ (slice, l₁) ∷ (P.ty, l₂) ∷ (C.ty, l₃) ∷ (B.ty, l₄) ∷ (word, l₅) ∷ (ty_d, l₆) ∷ (word, l₇) ∷ (lent, l₈) ∷ (lent_slice, l₉) ∷ (word, m₀) ∷ (ty_bool, m₁) ∷ (ty_ptr, m₂) ∷ (S.ty, m₃) ∷ (word, m₄) ∷ (ty_bool, m₅) ∷ (word, m₆) ∷ (ty_ptr, m₇) ∷ []

        -- the list, the open borrow and both halves of its ghost variable; then the locals, the last first
        abbrev At : Upto → List (Item 𝓤)
        At s = ‵ (elements (row S) full_share ys b o) ∷ ‵ (fobor κ q (Held (row S) n b o γ)) ∷ ‵ (fobs γ ((coded_holeys (row S)).code (heres (row S) ys))) ∷ ‵ (fauth γ ((coded_holeys (row S)).code (heres (row S) ys)))
            ∷ ‵ (froom ty_ptr m₇ 0) ∷ ‵ (fdies ty_ptr m₇) ∷ ‵ (froom word m₆ 0) ∷ ‵ (fdies word m₆) ∷ ‵ (froom ty_bool m₅ 0) ∷ ‵ (fdies ty_bool m₅) ∷ ‵ (froom word m₄ 0) ∷ ‵ (fdies word m₄)
            ∷ ‵ (froom S.ty m₃ 0) ∷ ‵ (fdies S.ty m₃) ∷ ‵ (froom ty_ptr m₂ 0) ∷ ‵ (fdies ty_ptr m₂) ∷ ‵ (froom ty_bool m₁ 0) ∷ ‵ (fdies ty_bool m₁) ∷ ‵ (froom word m₀ 0) ∷ ‵ (fdies word m₀)
            ∷ ‵ (froom lent_slice l₉ 0) ∷ ‵ (fdies lent_slice l₉) ∷ ‵ (froom lent l₈ 0) ∷ ‵ (fdies lent l₈) ∷ ‵ (froom word l₇ 0) ∷ ‵ (fdies word l₇) ∷ ‵ (froom ty_d l₆ 0) ∷ ‵ (fdies ty_d l₆)
            ∷ ‵ (fat full_share word l₅ 0 (vint w64 s.0)) ∷ ‵ (fdies word l₅) ∷ ‵ (fat full_share B.ty l₄ 0 (B.val s.1.0)) ∷ ‵ (fdies B.ty l₄) ∷ ‵ (froom C.ty l₃ 0) ∷ ‵ (fdies C.ty l₃) ∷ ‵ (fat full_share P.ty l₂ 0 (P.val p)) ∷ ‵ (fdies P.ty l₂)
            ∷ ‵ (fat full_share slice l₁ 0 (slice_val (b, o) n)) ∷ ‵ (fdies slice l₁) ∷ ‵ (froom Q.ty l₀ 0) ∷ ‵ (fdies Q.ty l₀) ∷ []

        -- a turn's postcondition: it ends nearer to n, or the loop is left and the rest of the body runs
        abbrev Turned : Upto → Out → SProp 𝓤
        Turned s = after_turn 𝓤 H (Below 𝓛 Nearer At s) (after_block 𝓤 H (after_seq 𝓤 H (Wp 𝓤 H 𝓒 Λ En (rest g₃) (at_return 𝓤 H En Post)) (at_return 𝓤 H En Post)))

        -- past the loop: what is decided is asked, and one element is stored, or none
        leaves : (s : Upto) → n ≤ s.0 → Sq 𝓛 (At s) (runs 𝓒 Λ En (rest g₃) (at_ret En Post))
        leaves s over =
            calls1 ! (fm_of 𝓤 H 𝓛.laws 𝓣) B (placed D) end known₃ s.1.0 s.1.1.1.0 (and_then ! (load ! (from ! (stop !)) (look ! 31 refl)) (no_more !)) (λ is.
            land ! (from ! (stop !)) (init ! 26 refl (D.typed 𝓛 res _ is).0) $
            assigns ! (of_opd ! (load ! (from ! (fld ! refl (stop !))) (look_in ! 26 (sub ! 1 refl (whole !))))) (from ! (stop !)) (init ! 24 refl (tt, record { fits = D.is_at res _ is })) $
            assigns ! (of_opd ! (load ! (from ! (fld ! refl (stop !))) (look_in ! 36 (sub ! 1 refl (whole !))))) (from ! (stop !)) (init ! 10 refl (tt, record { fits = gn.0 })) $
            assigns ! (bin ! (load ! (from ! (stop !)) (look ! 24 refl)) (load ! (from ! (stop !)) (look ! 10 refl)) tt) (from ! (stop !)) (init ! 8 refl (tt, tt)) $
            first ! $ branches ! (load ! (from ! (stop !)) (look ! 8 refl))
            (λ less.
            assigns ! (bin ! (load ! (from ! (stop !)) (look ! 24 refl)) (lit ! small) (record { fits = place-fits (size S.ty) (inside less) gn.1 })) (from ! (stop !)) (init ! 6 refl (tt, record { fits = place-fits (size S.ty) (inside less) gn.1 })) $
            assigns ! (bin ! (load ! (from ! (fld ! refl (stop !))) (look_in ! 36 (sub ! 0 refl (whole !)))) (load ! (from ! (stop !)) (look ! 6 refl)) tt) (from ! (stop !)) (init ! 4 refl (tt, tt)) $
            rewrite ! 4 (λ (at : ℕ). ‵ (fat full_share ty_ptr m₇ 0 (vptr b at))) (sym (place_is (size S.ty) o (D.at res))) refl $
            elem_out ! (row S) (Is (row S)) (shows 𝓛 (row S)) (λ y. S.val y ∷ []) S.tells full_share ys (D.at res) d b o (inside less) (λ _.
            assigns_last ! (of_opd ! (load ! (from ! (fld ! refl (stop !))) (look_in ! 28 (sub ! 2 refl (whole !))))) (from ! (hop ! (look ! 6 refl) (stop !))) (store_raw ! 0 refl (S.typed 𝓛 (D.elem res) _ (D.is_elem res _ is)).0) $
            exec ! 𝓒 Λ En last (at_ret En Post) $
            move ! (1 ∷ []) $ drop ! $ owned ! (row S) (Is (row S)) (S.makes 𝓛) (D.elem res) _ (D.is_elem res _ is) $ move ! (1 ∷ 0 ∷ []) $ elem_put ! (row S) full_share ys (D.at res) (D.elem res) (S.val (D.elem res) ∷ []) b o (inside less) $
            closes_slice ! tt (row S) ys zs (length-set ys (D.at res) (D.elem res)) b o $
            -- [obs; the borrow; the token; the locals]
            assigns ! (of_opd ! (load ! (from ! (fld ! refl (stop !))) (look_in ! 25 (sub ! 0 refl (whole !))))) (from ! (stop !)) (init ! 37 refl (Q.typed 𝓛 (D.ans res) _ (D.is_ans res _ is)).0) $
            returns ! (look ! 37 refl) $ forget ! 3 refl $ forget ! 5 refl $ forget ! 7 refl $ forget ! 9 refl $ forget ! 23 refl $ forget ! 25 refl $ forget ! 27 refl $ forget ! 29 refl $ forget ! 33 refl $ forget ! 35 refl $ forget ! 37 refl $
            move ! (37 ∷ 38 ∷ []) $ free1 ! $ move ! (35 ∷ 36 ∷ []) $ free1 ! $ move ! (33 ∷ 34 ∷ []) $ free1 ! $ move ! (31 ∷ 32 ∷ []) $ free1 ! $ move ! (29 ∷ 30 ∷ []) $ free1 ! $ move ! (27 ∷ 28 ∷ []) $ free1 ! $ move ! (25 ∷ 26 ∷ []) $ free1 ! $ move ! (23 ∷ 24 ∷ []) $ free1 ! $ move ! (21 ∷ 22 ∷ []) $ free1 ! $ move ! (19 ∷ 20 ∷ []) $ free1 ! $ move ! (17 ∷ 18 ∷ []) $ free1 ! $ move ! (15 ∷ 16 ∷ []) $ free1 ! $ move ! (13 ∷ 14 ∷ []) $ free1 ! $ move ! (11 ∷ 12 ∷ []) $ free1 ! $ move ! (9 ∷ 10 ∷ []) $ free1 ! $ move ! (7 ∷ 8 ∷ []) $ free1 ! $ move ! (5 ∷ 6 ∷ []) $ free1 ! $ move ! (3 ∷ 4 ∷ []) $ free1 ! $ free0 ! $ keep ! (0 ∷ 1 ∷ 2 ∷ []) $
            by ! (exits (D.ans res) zs (D.is_ans res _ is) (length-set ys (D.at res) (D.elem res)) (ap (λ (a : B.Den). D.ans (end a)) whole_list) (ap (λ (a : B.Den). set ys (D.at (end a)) (D.elem (end a))) whole_list))))
            (λ outside. skips ! $ exec ! 𝓒 Λ En last (at_ret En Post) $
            closes_slice ! tt (row S) ys ys refl b o $
            assigns ! (of_opd ! (load ! (from ! (fld ! refl (stop !))) (look_in ! 25 (sub ! 0 refl (whole !))))) (from ! (stop !)) (init ! 37 refl (Q.typed 𝓛 (D.ans res) _ (D.is_ans res _ is)).0) $
            returns ! (look ! 37 refl) $ forget ! 7 refl $ forget ! 9 refl $ forget ! 23 refl $ forget ! 25 refl $ forget ! 27 refl $ forget ! 29 refl $ forget ! 33 refl $ forget ! 35 refl $ forget ! 37 refl $
            move ! (37 ∷ 38 ∷ []) $ free1 ! $ move ! (35 ∷ 36 ∷ []) $ free1 ! $ move ! (33 ∷ 34 ∷ []) $ free1 ! $ move ! (31 ∷ 32 ∷ []) $ free1 ! $ move ! (29 ∷ 30 ∷ []) $ free1 ! $ move ! (27 ∷ 28 ∷ []) $ free1 ! $ move ! (25 ∷ 26 ∷ []) $ free1 ! $ move ! (23 ∷ 24 ∷ []) $ free1 ! $ move ! (21 ∷ 22 ∷ []) $ free1 ! $ move ! (19 ∷ 20 ∷ []) $ free1 ! $ move ! (17 ∷ 18 ∷ []) $ free1 ! $ move ! (15 ∷ 16 ∷ []) $ free1 ! $ move ! (13 ∷ 14 ∷ []) $ free1 ! $ move ! (11 ∷ 12 ∷ []) $ free1 ! $ move ! (9 ∷ 10 ∷ []) $ free1 ! $ move ! (7 ∷ 8 ∷ []) $ free1 ! $ move ! (5 ∷ 6 ∷ []) $ free1 ! $ move ! (3 ∷ 4 ∷ []) $ free1 ! $ free0 ! $ keep ! (0 ∷ 1 ∷ 2 ∷ []) $
            by ! (exits (D.ans res) ys (D.is_ans res _ is) refl (ap (λ (a : B.Den). D.ans (end a)) whole_list)
            (sym (set_out ys (D.at res) (D.elem res) (nltb→le (D.at res) n outside)) ∙ ap (λ (a : B.Den). set ys (D.at (end a)) (D.elem (end a))) whole_list))))
          where
            res : D.Den
            res = end s.1.0

            zs : List S.Den
            zs = set ys (D.at res) (D.elem res)

            inside : T (ltb (D.at res) n) → D.at res < n
            inside less = ltb→lt (D.at res) n less

            whole_list : s.1.0 ≡ all
            whole_list = none_left step d ys s.0 s.1.0 all over s.1.1.1.1

        turns : (s : Upto) → Sq 𝓛 (At s) (runs 𝓒 Λ En (turn g₂) (any_q (Turned s)))
        unfolding after_turn
        turns s =
            assigns ! (of_opd ! (load ! (from ! (fld ! refl (stop !))) (look_in ! 36 (sub ! 1 refl (whole !))))) (from ! (stop !)) (init ! 18 refl (tt, record { fits = gn.0 })) $
            assigns ! (bin ! (load ! (from ! (stop !)) (look ! 28 refl)) (load ! (from ! (stop !)) (look ! 18 refl)) tt) (from ! (stop !)) (init ! 16 refl (tt, tt)) $
            first ! $ branches ! (load ! (from ! (stop !)) (look ! 16 refl))
            (λ less. skips ! $ exec ! 𝓒 Λ En (more g₂) (any_q (Turned s)) $
            assigns ! (bin ! (load ! (from ! (stop !)) (look ! 28 refl)) (lit ! small) (record { fits = place-fits (size S.ty) (less_than less) gn.1 })) (from ! (stop !)) (store ! 18 refl (tt, record { fits = place-fits (size S.ty) (less_than less) gn.1 })) $
            assigns ! (bin ! (load ! (from ! (fld ! refl (stop !))) (look_in ! 36 (sub ! 0 refl (whole !)))) (load ! (from ! (stop !)) (look ! 18 refl)) tt) (from ! (stop !)) (init ! 14 refl (tt, tt)) $
            rewrite ! 14 (λ (at : ℕ). ‵ (fat full_share ty_ptr m₂ 0 (vptr b at))) (sym (place_is (size S.ty) o s.0)) refl $
            elem_out ! (row S) (Is (row S)) (shows 𝓛 (row S)) (λ y. S.val y ∷ []) S.tells full_share ys s.0 d b o (less_than less) (λ ok.
            -- [list[i]; what it owns; the others; the open borrow; obs; auth; the locals]
            assigns ! (of_opd ! (load ! (from ! (hop ! (look ! 16 refl) (stop !))) (look_raw ! 0 refl))) (from ! (stop !)) (init ! 14 refl (S.typed 𝓛 elem _ ok).0) $
            elem_back ! (row S) full_share ys s.0 d (S.val elem ∷ []) b o (less_than less) $
            calls2 ! (fm_of 𝓤 H 𝓛.laws 𝓣) B S B step known₂ s.1.0 elem s.1.1.1.0 ok (and_then ! (load ! (from ! (stop !)) (look ! 31 refl)) (and_then ! (load ! (from ! (stop !)) (look ! 13 refl)) (no_more !))) (λ is.
            land ! (from ! (stop !)) (store ! 30 refl (B.typed 𝓛 (step s.1.0 elem) _ is).0) $
            assigns_last ! (bin ! (load ! (from ! (stop !)) (look ! 28 refl)) (lit ! tt) (record { fits = next_fits (less_than less) gn.0 })) (from ! (stop !)) (store ! 28 refl (tt, record { fits = next_fits (less_than less) gn.0 })) $
            forget ! 12 refl $ forget ! 14 refl $ forget ! 16 refl $ forget ! 18 refl $
            again ! Nearer At s (next less is) (nearer (less_than less)))))
            (λ over. jumps ! $ exec ! 𝓒 Λ En (rest g₃) (at_ret En Post) $ forget ! 16 refl $ forget ! 18 refl $ leaves s (nltb→le s.0 n over))
          where
            elem : S.Den
            elem = get_or ys s.0 d

            less_than : T (ltb s.0 n) → s.0 < n
            less_than less = ltb→lt s.0 n less

            next : T (ltb s.0 n) → Ok B (step s.1.0 elem) → Upto
            next less is = (s.0 + 1, (step s.1.0 elem, (omega (arith, less_than less), (is, one_more step d ys s.0 s.1.0 all (less_than less) s.1.1.1.1))))

      -- the list as it is lent to f
      abbrev ref : Bor (List S.Den)
      ref = record { ref_ptr = (b, o); now = ys }

      walk : ent 𝓤 (on_entry 𝓛 signature (κ, tt) (q, tt) x at) (WpFn 𝓤 H 𝓣.C 𝓣.Λ (function g₀ g₁ g₂ g₃) (slice_val (b, o) n ∷ P.val p ∷ []) Post)
      walk =
          qed 𝓛 ((‵ (flft κ q) ⊛ ‵ ftrue) ∷ ‵ (owns (MutSlice (named 0) κ (row S) ∷ row P ∷ []) x at) ∷ []) ∵ enter ! 𝓣.C 𝓣.Λ (function g₀ g₁ g₂ g₃) (slice_val (b, o) n ∷ P.val p ∷ []) _ $
          alloc1 ! (λ l₀. alloc1 ! (λ l₁. alloc1 ! (λ l₂. alloc1 ! (λ l₃. alloc1 ! (λ l₄. alloc1 ! (λ l₅. alloc1 ! (λ l₆. alloc1 ! (λ l₇. alloc1 ! (λ l₈. alloc1 ! (λ l₉. alloc1 ! (λ m₀. alloc1 ! (λ m₁. alloc1 ! (λ m₂. alloc1 ! (λ m₃. alloc1 ! (λ m₄. alloc1 ! (λ m₅. alloc1 ! (λ m₆. alloc1 ! (λ m₇. alloc0 ! $ params1 ! $ pass1 ! (init ! 32 refl (tt, (tt, (record { fits = gn.0 }, tt)))) $ pass1 ! (init ! 30 refl (P.typed 𝓛 p _ is-p).0) $ pass0 ! $
          move ! (37 ∷ []) $ fsplit ! $ fsplit ! $ move ! (1 ∷ []) $ fsplit ! $ move ! (40 ∷ []) $ split ! $ move ! (2 ∷ 3 ∷ 0 ∷ []) $
          opens_slice ! tt (row S) ys b o $
          -- [the list; the open borrow; obs; auth; true; list's fact; p's; the locals]
          keep ! (0 ∷ 1 ∷ 2 ∷ 3 ∷ 7 ∷ 8 ∷ 9 ∷ 10 ∷ 11 ∷ 12 ∷ 13 ∷ 14 ∷ 15 ∷ 16 ∷ 17 ∷ 18 ∷ 19 ∷ 20 ∷ 21 ∷ 22 ∷ 23 ∷ 24 ∷ 25 ∷ 26 ∷ 27 ∷ 28 ∷ 29 ∷ 30 ∷ 31 ∷ 32 ∷ 33 ∷ 34 ∷ 35 ∷ 36 ∷ 37 ∷ 38 ∷ 39 ∷ 40 ∷ 41 ∷ 42 ∷ []) $
          assigns ! (addr ! (from ! (fld ! refl (hop ! (look_in ! 36 (sub ! 0 refl (whole !))) (stop !))))) (from ! (stop !)) (init ! 22 refl (tt, tt)) $
          assigns ! (agg ! (and_then ! (load ! (from ! (stop !)) (look ! 22 refl)) (and_then ! (load ! (from ! (fld ! refl (stop !))) (look_in ! 36 (sub ! 1 refl (whole !)))) (no_more !)))) (from ! (stop !)) (init ! 20 refl (tt, (tt, (record { fits = gn.0 }, tt)))) $
          -- the list is lent for a lifetime of the call
          feq_i ! ℕ n n refl $ fjoin ! $ lft_new ! tt (λ α. move ! (1 ∷ []) $
          use2 𝓛 (later ((‵ ((ShrSlice (named 0) (α ∷ []) (row S)).own_val ref at.0) ⊛ ‵ (flent (α ∷ []) ((arr_parts (shares (row S)) n).part full_share ys b o))) ⊛ ‵ (flft (α ∷ []) full_share)))
          (lends_list 𝓛 S α ys b o gn) $ await ! tt $ split ! $ split ! $ move ! (2 ∷ 0 ∷ []) $
          calls_on0 ! (fm_of 𝓤 H 𝓛.laws 𝓣) S C F known₀ (α ∷ []) full_share ref (and_then ! (load ! (from ! (stop !)) (look ! 22 refl)) (no_more !)) (λ is_c.
          -- [the token; the list as lent; the lender's part; the open borrow; obs; auth; the locals]
          land ! (from ! (stop !)) (init ! 34 refl (C.typed 𝓛 (F ys) _ is_c).0) $
          lft_end ! tt $ move ! (0 ∷ 2 ∷ []) $ lent_back ! tt $ move ! (1 ∷ []) $ drop ! $ fsplit ! $ drop ! $
          calls2 ! (fm_of 𝓤 H 𝓛.laws 𝓣) P C B begin known₁ p (F ys) is-p is_c (and_then ! (load ! (from ! (stop !)) (look ! 35 refl)) (and_then ! (load ! (from ! (stop !)) (look ! 33 refl)) (no_more !))) (λ is.
          land ! (from ! (stop !)) (init ! 30 refl (B.typed 𝓛 (begin p (F ys)) _ is).0) $
          assigns ! (of_opd ! (lit ! tt)) (from ! (stop !)) (init ! 28 refl (tt, record { fits = lit< tt })) $
          forget ! 20 refl $ forget ! 22 refl $ forget ! 32 refl $ first ! $ blocks ! $
          loops ! 𝓣 Nearer Nearer_wf (At l₀ l₁ l₂ l₃ l₄ l₅ l₆ l₇ l₈ l₉ m₀ m₁ m₂ m₃ m₄ m₅ m₆ m₇) (turns l₀ l₁ l₂ l₃ l₄ l₅ l₆ l₇ l₈ l₉ m₀ m₁ m₂ m₃ m₄ m₅ m₆ m₇) (0, (begin p (F ys), (zero-le, (is, refl)))))))))))))))))))))))))

    walks : Walks 𝓛 ended stayed (WpFn 𝓤 H 𝓣.C 𝓣.Λ (function g₀ g₁ g₂ g₃)) (clauses 𝓤)
    walks = walked 𝓛 ended stayed (clauses 𝓤) (WpFn 𝓤 H 𝓣.C 𝓣.Λ (function g₀ g₁ g₂ g₃)) (λ κs. (mut_slice_vals, ((λ y. P.val y ∷ []), tt))) (λ κs. (mut_slice_Tells (named 0) κs.0 (row S), (P.tells, tt)))
        (λ κs qs bounds a g are. via 𝓤 _ (fst∗ 𝓤 _ (emp 𝓤)) (walk κs.0 qs.0 a.0.ref_ptr.0 a.0.ref_ptr.1 a.0.ghost_name a.0.now are.0.0.1 a.1.0 are.1.0))

    pub meets : Meets 𝓛 signature (WpFn 𝓤 H 𝓣.C 𝓣.Λ (function g₀ g₁ g₂ g₃)) (closing 𝓛 ended (clauses 𝓤))
    meets = walk_Meets 𝓛 ended stayed (Goes-slice 𝓛 1 0 tt (slot S), (Goes-none 𝓛 1 (λ _. row P) yes (λ κs x f. refl), tt)) (clauses 𝓤)
        (WpFn 𝓤 H 𝓣.C 𝓣.Λ (function g₀ g₁ g₂ g₃)) (WpFn-mono 𝓤 H 𝓛.laws 𝓣 (function g₀ g₁ g₂ g₃)) walks
