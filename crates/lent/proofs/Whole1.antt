-- A local array lent whole, by `&`, to a function over `&[S]`, proved once: so a caller that the borrow checker covers can go through that function.
--     pub fn t(xs: [S; n], p: P) -> Q    ensures  r ≡ G xs p
--     { w(&xs, p) }
-- where `w(list: &[S], p: P) -> Q` ensures `r ≡ G list p`.
--     Over     w's contract.        whole    the MIR of t meets its contract, where the table's entry for w meets w's
-- Assumes `Logic`.
use mathlib.Core.Path.{◌≡◌, refl, sym, ap, subst}
use Prim.Native.Nat.{ℕ, ◌^◌}
use mathlib.Core.List.{List, [], ◌∷◌}
use lib.ListN.{length}
use lib.Dec.{T, ltb}
use seplogic.Ra.Ura.{Ura}
use base.Fraction.{full_share}
use mir.Syntax.{Callee, Ty, Fn, named, erased, imm, w64, ty_array, ty_ref, place, copy, int, local, value_local, memory_slot, seq, assign, call, return, rv_opd, addr_of, aggregate}
use mir.Val.{Val, bits}
use base.Logic.{SProp, ent, sep, emp, via, fst∗, id⊢, ex_e, snd∗}
use base.Fml.{ftrue, flft, fat, flent}
use prog.Wp.{Calls, Loops, WpFn, Tables}
use types.Logic.{Logic, sem}
use contract.Monad.{fact}
use types.Kit.{‵, raw, given, some, later, ◌⊛◌, ◌$◌, ◌∵◌, !, qed, by, move, keep, drop, use1, use2, split, join, pick, learn, rewrite, fjoin, suffices, frame, await, done}
use types.Run.{look, init, forget, stop, from, load, lit, addr, of_opd, and_then, no_more, assigns, land, returns, enter, alloc1, alloc0, params1, pass1, pass0, free1, free0}
use types.Part.{agg}
use types.Share.{arr_parts}
use types.Tokens.{lft_new, lft_end, lent_back}
use sound.WpLaws.{FmC, fm_of, WpFn-mono}
use denote.Exit.{yes}
use denote.RattleType.{owns}
use denote.Shadow.{shadow}
use denote.Laws.{Is, shows}
use denote.ArrayMemory.{Array-apart, Array-whole}
use denote.Memory.{pointee, shares, part_at}
use denote.Ref.{Bor}
use denote.Slice.{slice_ty, slice_val, ShrSlice, Room}
use denote.Signature.{Signature, shr_slice_of}
use denote.Steps.{only, owned, peeks, heard, nothing}
use denote.Triple.Entry.{on_entry}
use denote.Triple.Spec.{Meets, triple_of}
use denote.Triple.Statement.{Contract, Triple}
use denote.Triple.Call.{calls_at}
use denote.Triple.Clauses.{Clauses, Ended, closing, ensured, lasts}
use denote.Triple.Walked.{says, Stays, stay_none, walk_of, Goes-none, ends_at, walked, walk_Meets}
use Rattle.lent.proofs.Handed.{lends_list}
use Rattle.lent.proofs.Plain.{Cell, row, slot, Ok, array, array_long, lies_in, lies_out, of2, says2}

-- S is the element, P the parameter, Q the result. `small` is `tt`, and `room` is two `lit< tt`
module _ (S P Q : Cell) (n : ℕ) (G : List S.Den → P.Den → Q.Den) (small : T (ltb n (2 ^ bits w64))) (room : Room (row S) n) where
  abbrev signature : Signature
  signature = record { lifetimes = 1; outlives = []; params = shr_slice_of (0 ∷ []) tt (slot S) ∷ slot P ∷ []; result = slot Q }

  abbrev ended : Ended
  ended = record { signature = signature; kept = (yes, (yes, tt)) }

  abbrev clauses : {M : Type 1} (𝓤 : Ura M) → Clauses 𝓤 ended
  clauses 𝓤 κs a = record { ghost = Unit {0}; requires = λ _. emp 𝓤; ensures = λ _ r e. fact 𝓤 (r ≡ G a.0.now a.1.0) }

  abbrev stayed : Stays (of2 (array S n) P Q).signature.params (of2 (array S n) P Q).kept
  stayed = (stay_none (λ _. row (array S n)) yes, (stay_none (λ _. row P) yes, tt))

  abbrev slice : Ty
  slice = slice_ty (ty_ref erased imm (pointee S.written))

  -- the MIR: the result, xs, p, the array in memory, its address, and the slice
  abbrev function : Callee → Fn
  function w = record {
    lifetimes = 0;
    outlives = [];
    ty_params = [];
    givens = 0;
    params = 2;
    locals = local Q.ty value_local ∷ local (array S n).ty value_local ∷ local P.ty value_local ∷ local (array S n).ty memory_slot ∷ local (ty_ref erased imm (ty_array (pointee S.written) n)) value_local ∷ local slice value_local ∷ [];
    body = seq (assign (place 3 []) (rv_opd (copy (place 1 []))))
        (seq (assign (place 4 []) (addr_of (place 3 [])))
        (seq (assign (place 5 []) (aggregate (copy (place 4 []) ∷ int w64 n ∷ [])))
        (seq (call w (copy (place 5 []) ∷ copy (place 2 []) ∷ []) (place 0 [])) return)));
  }

  module _ {M : Type 1} {𝓤 : Ura M} (𝓛 : Logic 𝓤) where
    open 𝓛 use {H, A}

    abbrev pub Over : Contract 𝓤
    Over = triple_of 𝓛 signature (closing 𝓛 ended (clauses 𝓤))

    module _ (ys : List S.Den) (is-ys : Ok (array S n) ys) (p : P.Den) (is-p : Ok P p) where
      abbrev ref : ℕ → Bor (List S.Den)
      ref l = record { ref_ptr = (l, 0); now = ys }

      long : length ys ≡ n
      long = array_long S n ys is-ys

      room_ys : Room (row S) (length ys)
      room_ys = subst (Room (row S)) (sym long) room

      abbrev Post : Val → SProp 𝓤
      Post = (walk_of 𝓛 (of2 (array S n) P Q) stayed (says2 𝓤 (array S n) P Q G)).post ((tt, tt, tt, (ys, (p, tt)), ((array S n).val ys ∷ [], (P.val p ∷ [], tt))), tt)

      exits : (r : Q.Den) → Ok Q r → r ≡ (G ys p) → ent 𝓤 (emp 𝓤) (Post (Q.val r))
      exits r ok e =
          qed 𝓛 [] ∵ suffices ! _ (ends_at 𝓛 (of2 (array S n) P Q) stayed (says2 𝓤 (array S n) P Q G) ((tt, tt, tt, (ys, (p, tt)), ((array S n).val ys ∷ [], (P.val p ∷ [], tt))), tt) (Q.val r) r (tt, (tt, tt)) (tt, (tt, tt))) $ says ! e $
          owned ! (row Q) (Is (row Q)) (Q.makes 𝓛) r _ ok $ nothing ! $ owned ! (row P) (Is (row P)) (P.makes 𝓛) p _ is-p $ fjoin ! $ owned ! (row (array S n)) (Is (row (array S n))) ((array S n).makes 𝓛) ys _ is-ys $ fjoin ! $ nothing ! $ done !

      -- what w's triple binds outside: the array at l, lent for the lifetime α
      abbrev to_w : ℕ → ℕ → Over.Ghost
      to_w α l = (((α ∷ [], tt), (full_share, tt), tt, (ref l, (p, tt)), (slice_val (l, 0) (length ys) ∷ [], (P.val p ∷ [], tt))), tt)

      goes_in : (α l : ℕ) → ent 𝓤 (sep 𝓤 (A.lft (α ∷ []) full_share) (sem 𝓛 ((ShrSlice (named 0) (α ∷ []) (row S)).own_val (ref l) (slice_val (l, 0) (length ys) ∷ [])))) (Over.pre (to_w α l))
      goes_in α l =
          qed 𝓛 (‵ (flft (α ∷ []) full_share) ∷ ‵ ((ShrSlice (named 0) (α ∷ []) (row S)).own_val (ref l) (slice_val (l, 0) (length ys) ∷ [])) ∷ []) ∵
          nothing ! $ owned ! (row P) (Is (row P)) (P.makes 𝓛) p _ is-p $ fjoin ! $ move ! (2 ∷ 0 ∷ []) $ fjoin ! $ nothing ! $ move ! (2 ∷ 0 ∷ []) $ join ! $ join ! $ frame ! $ done !

      module _ (w : Callee) (C : Calls 𝓤 H) (Λ : Loops 𝓤 H) (fm : FmC 𝓤 H 𝓛.laws C) (known : Triple 𝓤 (C w) Over) where
        walk : ent 𝓤 (on_entry 𝓛 (of2 (array S n) P Q).signature tt tt (ys, (p, tt)) ((array S n).val ys ∷ [], (P.val p ∷ [], tt))) (WpFn 𝓤 H C Λ (function w) ((array S n).val ys ∷ P.val p ∷ []) Post)
        walk =
            qed 𝓛 (‵ ftrue ∷ ‵ (owns (row (array S n) ∷ row P ∷ []) (ys, (p, tt)) ((array S n).val ys ∷ [], (P.val p ∷ [], tt))) ∷ []) ∵ keep ! [] $ enter ! C Λ (function w) ((array S n).val ys ∷ P.val p ∷ []) _ $
            alloc1 ! (λ l₀. alloc1 ! (λ l₁. alloc1 ! (λ l₂. alloc1 ! (λ l₃. alloc1 ! (λ l₄. alloc1 ! (λ l₅. alloc0 ! $ params1 ! $ pass1 ! (init ! 8 refl ((array S n).typed 𝓛 ys _ is-ys).0) $ pass1 ! (init ! 6 refl (P.typed 𝓛 p _ is-p).0) $ pass0 ! $
            assigns ! (of_opd ! (load ! (from ! (stop !)) (look ! 8 refl))) (from ! (stop !)) (init ! 4 refl ((array S n).typed 𝓛 ys _ is-ys).0) $
            assigns ! (addr ! (from ! (stop !))) (from ! (stop !)) (init ! 2 refl (tt, tt)) $
            assigns ! (agg ! (and_then ! (load ! (from ! (stop !)) (look ! 2 refl)) (and_then ! (lit ! small) (no_more !)))) (from ! (stop !)) (init ! 0 refl (tt, (tt, (record { fits = room.0 }, tt)))) $
            rewrite ! 0 (λ (m : ℕ). ‵ (fat full_share slice l₅ 0 (slice_val (l₃, 0) m))) (sym long) refl $
            -- the array is lent for a lifetime of the call
            move ! (4 ∷ []) $ use1 𝓛 (‵ (part_at (row (array S n)) full_share ys l₃ 0)) (lies_in 𝓛 (array S n) ys l₃ 0 is-ys) $
            use1 𝓛 (‵ ((arr_parts (shares (row S)) n).part full_share ys l₃ 0)) (Array-apart 𝓛 (row S) full_share tt n ys l₃ 0) $
            rewrite ! 0 (λ (m : ℕ). ‵ ((arr_parts (shares (row S)) m).part full_share ys l₃ 0)) (sym long) refl $ lft_new ! tt (λ α. move ! (1 ∷ []) $
            use2 𝓛 (later ((‵ ((ShrSlice (named 0) (α ∷ []) (row S)).own_val (ref l₃) (slice_val (l₃, 0) (length ys) ∷ [])) ⊛ ‵ (flent (α ∷ []) ((arr_parts (shares (row S)) (length ys)).part full_share ys l₃ 0))) ⊛ ‵ (flft (α ∷ []) full_share)))
            (lends_list 𝓛 S α ys l₃ 0 room_ys) $ await ! tt $ split ! $ split ! $
            move ! (2 ∷ 0 ∷ []) $ use2 𝓛 (raw (Over.pre (to_w α l₃))) (goes_in α l₃) $
            -- [what w asks; the lender's part; the locals without the array]
            calls_at ! fm Over known (to_w α l₃) (and_then ! (load ! (from ! (stop !)) (look ! 2 refl)) (and_then ! (load ! (from ! (stop !)) (look ! 7 refl)) (no_more !))) (λ v.
            use1 𝓛 (later (some (λ (r : Q.Den). ((‵ (flft (α ∷ []) full_share) ⊛ ‵ ftrue) ⊛ ‵ (Q.own r (v ∷ []))) ⊛ raw (ensured 𝓛 ended (clauses 𝓤) (α ∷ [], tt) (ref l₃, (p, tt)) tt r)))) (id⊢ 𝓤 _) $ await ! tt $ pick ! (λ r.
            split ! $ move ! (1 ∷ []) $ use1 𝓛 (raw (fact 𝓤 (r ≡ (G ys p)))) (ex_e 𝓤 _ (λ ws. snd∗ 𝓤 (sem 𝓛 (lasts ended (α ∷ [], tt) (ref l₃, (p, tt)) ws)) (fact 𝓤 (r ≡ (G ys p))))) $ heard ! (r ≡ (G ys p)) (λ e. split ! $ move ! (1 ∷ []) $
            peeks ! (row Q) (Is (row Q)) (shows 𝓛 (row Q)) r (v ∷ []) (λ is. drop ! $
            -- [the token; the lender's part; the locals]
            land ! (from ! (stop !)) (init ! 11 refl (Q.typed 𝓛 r _ is).0) $ rewrite ! 11 (λ (u : Val). ‵ (fat full_share Q.ty l₀ 0 u)) (ap only (Q.tells r _ is)) refl $
            split ! $ lft_end ! tt $ move ! (0 ∷ 2 ∷ []) $ lent_back ! tt $
            rewrite ! 0 (λ (m : ℕ). ‵ ((arr_parts (shares (row S)) m).part full_share ys l₃ 0)) long refl $
            use1 𝓛 (‵ (part_at (row (array S n)) full_share ys l₃ 0)) (Array-whole 𝓛 (row S) full_share n ys l₃ 0) $
            use1 𝓛 (given (Ok (array S n) ys) (‵ (fat full_share (array S n).ty l₃ 0 ((array S n).val ys)))) (lies_out 𝓛 (array S n) ys l₃ 0) $ learn ! (λ _.
            -- [the array's cell; true; the locals]
            returns ! (look ! 11 refl) $ forget ! 0 refl $ forget ! 2 refl $ forget ! 4 refl $ forget ! 7 refl $ forget ! 9 refl $ forget ! 11 refl $
            move ! (11 ∷ 12 ∷ []) $ free1 ! $ move ! (9 ∷ 10 ∷ []) $ free1 ! $ move ! (7 ∷ 8 ∷ []) $ free1 ! $ move ! (0 ∷ 6 ∷ []) $ free1 ! $ move ! (3 ∷ 4 ∷ []) $ free1 ! $ move ! (1 ∷ 2 ∷ []) $ free1 ! $ free0 ! $
            keep ! [] $ by ! (exits r (subst (λ (vs : List Val). shadow (Q.own r vs)) (Q.tells r _ is) is) e)))))))))))))

    pub whole : (w : Callee) (𝓣 : Tables 𝓤 H) → Triple 𝓤 (𝓣.C w) Over → Meets 𝓛 (of2 (array S n) P Q).signature (WpFn 𝓤 H 𝓣.C 𝓣.Λ (function w)) (closing 𝓛 (of2 (array S n) P Q) (says2 𝓤 (array S n) P Q G))
    whole w 𝓣 known = walk_Meets 𝓛 (of2 (array S n) P Q) stayed (Goes-none 𝓛 0 (λ _. row (array S n)) yes (λ κs x f. refl), (Goes-none 𝓛 0 (λ _. row P) yes (λ κs x f. refl), tt)) (says2 𝓤 (array S n) P Q G)
        (WpFn 𝓤 H 𝓣.C 𝓣.Λ (function w)) (WpFn-mono 𝓤 H 𝓛.laws 𝓣 (function w))
        (walked 𝓛 (of2 (array S n) P Q) stayed (says2 𝓤 (array S n) P Q G) (WpFn 𝓤 H 𝓣.C 𝓣.Λ (function w)) (λ κs. ((λ y. (array S n).val y ∷ []), ((λ y. P.val y ∷ []), tt))) (λ κs. ((array S n).tells, (P.tells, tt)))
        (λ κs qs bounds a _ are. via 𝓤 _ (fst∗ 𝓤 _ (emp 𝓤)) (walk a.0 are.0 a.1.0 are.1.0 w 𝓣.C 𝓣.Λ (fm_of 𝓤 H 𝓛.laws 𝓣) known)))
