-- A plain record lent by `&mut` beside two `&mut` slices and a `&` slice, to a thin wrapper that passes the slices on, proved once:
--     pub fn w(f: &mut T, a: &mut [D], b: &mut [E], p: &[G], n: N) -> R    ensures  Gives3 r (the record at exit) (a at exit) (b at exit) (o f a b p n)
--     { let m = g(*f, a, b, p, n); *f = m.flow; m.answer }
-- where `g(f: T, a: &mut [D], b: &mut [E], p: &[G], n: N) -> M` ensures `Gives2 r (a at exit) (b at exit) (F f a b p n)`, M is a struct of an R, field 0, and a T, field 1 (`Plain.antt`),
-- and F's parts are those of the outcome o.
--     Passed   g's contract.        lent_two     the MIR of w meets its contract, where the table's entry for g meets g's
-- Assumes `Logic`.
use mathlib.Core.Path.{◌≡◌, refl, ap}
use Prim.Native.Nat.{ℕ}
use mathlib.Core.List.{List, [], ◌∷◌}
use lib.ListN.{length}
use seplogic.Ra.Ura.{Ura}
use base.Fraction.{full_share}
use mir.Syntax.{Callee, Ty, Fn, named, erased, mut, imm, ty_ref, deref, field, place, copy, local, value_local, seq, assign, call, return, rv_opd, addr_of, aggregate}
use mir.Val.{Val, vptr}
use base.Logic.{SProp, ent, emp, via, fst∗, id⊢}
use base.Fml.{GName, Lft, Share, ftrue, flft, fobs, fbor, fat}
use prog.Wp.{Calls, Loops, WpFn, Tables}
use types.Logic.{Logic}
use contract.Monad.{fact}
use types.Kit.{‵, raw, some, later, ◌⊛◌, ⋆, ◌$◌, ◌∵◌, !, qed, by, move, keep, drop, use1, split, join, pick, rewrite, fsplit, fsplit3, fjoin, fjoin3, feq_l, feq_i, suffices, frame, await, done}
use types.Run.{look, look_raw, store_raw, init, forget, stop, hop, fld, from, load, addr, of_opd, and_then, no_more, assigns, land, returns, enter, alloc1, alloc0, params1, pass1, pass0, free1, free0}
use types.Part.{agg, whole, sub, look_in}
use types.SemTy.{Body}
use sound.WpLaws.{FmC, fm_of, WpFn-mono}
use denote.Exit.{yes}
use denote.RattleType.{owns}
use denote.Laws.{Is, shows}
use denote.Memory.{mem, pointee}
use denote.Ref.{Bor, MutBor, MutRef, mut_vals, mut_Tells}
use denote.Slice.{slice_ty, slice_val, MutSlice, ShrSlice, Room, mut_slice_vals, shr_slice_vals, mut_slice_Tells, shr_slice_Tells}
use denote.Signature.{Signature, mut_ref_to, mut_slice_of, shr_slice_of}
use denote.Steps.{only, opens, closes, owned, peeks, heard, nothing}
use denote.Struct.Steps.{spelt}
use denote.Triple.Entry.{on_entry}
use denote.Triple.Spec.{Meets, triple_of}
use denote.Triple.Statement.{Contract, Triple}
use denote.Triple.Call.{calls_at}
use denote.Triple.Clauses.{Clauses, Ended, closing, ensured, lasts}
use denote.Triple.Walked.{says, Stays, stay_ref, gave_slice, stay_none, stay_dropped, walk_of, Goes-none, Goes-dropped, Goes-ref, Goes-gave_slice, ends_at, walked, walk_Meets}
use Rattle.numbers.specs.Promise.{Left2, Left3, Gives2, Gives3}
use Rattle.lent.proofs.Handed.{last_list}
use Rattle.lent.proofs.Plain.{Cell, row, slot, Ok, Moved, moved}

module _ (T D E G N R : Cell) (Mv : Moved R T)
    (F : T.Den → List D.Den → List E.Den → List G.Den → N.Den → Left2 Mv.Den (List D.Den) (List E.Den))
    (o : T.Den → List D.Den → List E.Den → List G.Den → N.Den → Left3 R.Den T.Den (List D.Den) (List E.Den))
    (is : (h : T.Den) (s : List D.Den) (t : List E.Den) (u : List G.Den) (n : N.Den) (m : Mv.Den) (ys : List D.Den) (zs : List E.Den) → Gives2 m ys zs (F h s t u n) → Gives3 (Mv.ans m) (Mv.flow m) ys zs (o h s t u n)) where
  abbrev ty_m : Ty
  ty_m = (moved Mv).ty

  -- g
  abbrev passed : Ended
  passed = record { signature = record { lifetimes = 3; outlives = []; params = slot T ∷ mut_slice_of (0 ∷ []) tt (slot D) ∷ mut_slice_of (1 ∷ []) tt (slot E) ∷ shr_slice_of (2 ∷ []) tt (slot G) ∷ slot N ∷ []; result = slot (moved Mv) }; kept = (yes, (yes, (yes, (yes, (yes, tt))))) }

  abbrev passed_clauses : {M : Type 1} (𝓤 : Ura M) → Clauses 𝓤 passed
  passed_clauses 𝓤 κs a = record {
    ghost = Unit {0};
    requires = λ _. emp 𝓤;
    ensures = λ _ r e. fact 𝓤 (Gives2 r e.1.0.now e.1.1.0.now (F a.0 a.1.0.now a.1.1.0.now a.1.1.1.0.now a.1.1.1.1.0));
  }

  -- w
  abbrev signature : Signature
  signature = record { lifetimes = 4; outlives = []; params = mut_ref_to (0 ∷ []) tt (slot T) ∷ mut_slice_of (1 ∷ []) tt (slot D) ∷ mut_slice_of (2 ∷ []) tt (slot E) ∷ shr_slice_of (3 ∷ []) tt (slot G) ∷ slot N ∷ []; result = slot R }

  abbrev ended : Ended
  ended = record { signature = signature; kept = (yes, (yes, (yes, (yes, (yes, tt))))) }

  abbrev clauses : {M : Type 1} (𝓤 : Ura M) → Clauses 𝓤 ended
  clauses 𝓤 κs a = record {
    ghost = Unit {0};
    requires = λ _. emp 𝓤;
    ensures = λ _ r e. fact 𝓤 (Gives3 r e.0.now e.1.0.now e.1.1.0.now (o a.0.now a.1.0.now a.1.1.0.now a.1.1.1.0.now a.1.1.1.1.0));
  }

  abbrev stayed : Stays ended.signature.params ended.kept
  stayed = (stay_ref (0 ∷ []) tt (slot T), (gave_slice (1 ∷ []) tt (slot D), (gave_slice (2 ∷ []) tt (slot E), (stay_dropped (shr_slice_of (3 ∷ []) tt (slot G)) yes, (stay_none (λ _. row N) yes, tt)))))

  -- the MIR: the result, f, a, b, p, n, m, the copy of `*f`, and the slices lent again
  abbrev wrapper : Callee → Fn
  wrapper g = record {
    lifetimes = 4;
    outlives = [];
    ty_params = [];
    givens = 0;
    params = 5;
    locals = local R.ty value_local ∷ local (ty_ref (named 0) mut (pointee T.written)) value_local ∷ local (slice_ty (ty_ref (named 1) mut (pointee D.written))) value_local ∷ local (slice_ty (ty_ref (named 2) mut (pointee E.written))) value_local
        ∷ local (slice_ty (ty_ref (named 3) imm (pointee G.written))) value_local ∷ local N.ty value_local ∷ local ty_m value_local ∷ local T.ty value_local
        ∷ local (ty_ref erased mut (pointee D.written)) value_local ∷ local (slice_ty (ty_ref erased mut (pointee D.written))) value_local ∷ local (ty_ref erased mut (pointee E.written)) value_local ∷ local (slice_ty (ty_ref erased mut (pointee E.written))) value_local ∷ [];
    body = seq (assign (place 7 []) (rv_opd (copy (place 1 (deref T.ty ∷ [])))))
        (seq (assign (place 8 []) (addr_of (place 2 (field 0 ∷ deref D.ty ∷ []))))
        (seq (assign (place 9 []) (aggregate (copy (place 8 []) ∷ copy (place 2 (field 1 ∷ [])) ∷ [])))
        (seq (assign (place 10 []) (addr_of (place 3 (field 0 ∷ deref E.ty ∷ []))))
        (seq (assign (place 11 []) (aggregate (copy (place 10 []) ∷ copy (place 3 (field 1 ∷ [])) ∷ [])))
        (seq (call g (copy (place 7 []) ∷ copy (place 9 []) ∷ copy (place 11 []) ∷ copy (place 4 []) ∷ copy (place 5 []) ∷ []) (place 6 []))
        (seq (assign (place 1 (deref T.ty ∷ [])) (rv_opd (copy (place 6 (field 1 ∷ [])))))
        (seq (assign (place 0 []) (rv_opd (copy (place 6 (field 0 ∷ []))))) return)))))));
  }

  module _ {M : Type 1} {𝓤 : Ura M} (𝓛 : Logic 𝓤) where
    open 𝓛 use {H}

    abbrev pub Passed : Contract 𝓤
    Passed = triple_of 𝓛 passed.signature (closing 𝓛 passed (passed_clauses 𝓤))

    module _ (κ₀ κ₁ κ₂ κ₃ : Lft) (q₀ q₁ q₂ q₃ : Share) (fr : MutBor T.Den) (ar : MutBor (List D.Den)) (br : MutBor (List E.Den)) (pr : Bor (List G.Den))
        (ga : Room (row D) (length ar.now)) (gb : Room (row E) (length br.now)) (gp : Room (row G) (length pr.now)) (n : N.Den) (is-n : Ok N n) where
      abbrev h : T.Den
      h = fr.now

      abbrev b : ℕ
      b = fr.ref_ptr.0

      abbrev off : ℕ
      off = fr.ref_ptr.1

      abbrev γ : GName
      γ = fr.ghost_name

      abbrev sa : Val
      sa = slice_val ar.ref_ptr (length ar.now)

      abbrev sb : Val
      sb = slice_val br.ref_ptr (length br.now)

      abbrev sp : Val
      sp = slice_val pr.ref_ptr (length pr.now)

      abbrev x : MutBor T.Den × (MutBor (List D.Den) × (MutBor (List E.Den) × (Bor (List G.Den) × (N.Den × Unit {0}))))
      x = (fr, (ar, (br, (pr, (n, tt)))))

      abbrev at : List Val × (List Val × (List Val × (List Val × (List Val × Unit {0}))))
      at = (vptr b off ∷ [], (sa ∷ [], (sb ∷ [], (sp ∷ [], (N.val n ∷ [], tt)))))

      abbrev Post : Val → SProp 𝓤
      Post = (walk_of 𝓛 ended stayed (clauses 𝓤)).post (((κ₀, (κ₁, (κ₂, (κ₃, tt)))), (q₀, (q₁, (q₂, (q₃, tt)))), tt, x, at), tt)

      abbrev Told : Mv.Den → List D.Den → List E.Den → Type 0
      Told m ys zs = Gives2 m ys zs (F h ar.now br.now pr.now n)

      exits : (m : Mv.Den) (ys : List D.Den) (zs : List E.Den) → Ok R (Mv.ans m) → Told m ys zs → length ys ≡ length ar.now → length zs ≡ length br.now
          → ent 𝓤 (⋆ 𝓛 (‵ (fobs γ (T.coded.code (Mv.flow m))) ∷ ‵ (fbor κ₀ (Body (mem (row T)) b off γ)) ∷ ‵ (flft κ₀ q₀) ∷ ‵ (last_list D κ₁ ar ys) ∷ ‵ (last_list E κ₂ br zs) ∷ ‵ (flft κ₁ q₁) ∷ ‵ (flft κ₂ q₂) ∷ ‵ (flft κ₃ q₃) ∷ [])) (Post (R.val (Mv.ans m)))
      exits m ys zs ok e len₁ len₂ =
          qed 𝓛 (‵ (fobs γ (T.coded.code (Mv.flow m))) ∷ ‵ (fbor κ₀ (Body (mem (row T)) b off γ)) ∷ ‵ (flft κ₀ q₀) ∷ ‵ (last_list D κ₁ ar ys) ∷ ‵ (last_list E κ₂ br zs) ∷ ‵ (flft κ₁ q₁) ∷ ‵ (flft κ₂ q₂) ∷ ‵ (flft κ₃ q₃) ∷ []) ∵
          suffices ! _ (ends_at 𝓛 ended stayed (clauses 𝓤) (((κ₀, (κ₁, (κ₂, (κ₃, tt)))), (q₀, (q₁, (q₂, (q₃, tt)))), tt, x, at), tt) (R.val (Mv.ans m)) (Mv.ans m) (Mv.flow m, (ys, (zs, (tt, (tt, tt))))) (tt, (len₁, (len₂, (tt, (tt, tt)))))) $
          says ! (is h ar.now br.now pr.now n m ys zs e) $ nothing ! $ move ! (8 ∷ 0 ∷ []) $ join ! $ move ! (7 ∷ 0 ∷ []) $ join ! $ move ! (6 ∷ 0 ∷ []) $ join ! $ move ! (3 ∷ 0 ∷ []) $ join ! $ frame ! $
          feq_i ! (List Val) (vptr b off ∷ []) (vptr b off ∷ []) refl $ fjoin3 ! $ nothing ! $ owned ! (row N) (Is (row N)) (N.makes 𝓛) n _ is-n $ fjoin ! $ nothing ! $ fjoin ! $ move ! (3 ∷ 0 ∷ []) $ fjoin ! $ move ! (2 ∷ 0 ∷ []) $ fjoin ! $ move ! (1 ∷ 0 ∷ []) $ fjoin ! $
          owned ! (row R) (Is (row R)) (R.makes 𝓛) (Mv.ans m) _ ok $ move ! (1 ∷ 0 ∷ []) $ done !

      abbrev to_g : Passed.Ghost
      to_g = (((κ₁, (κ₂, (κ₃, tt))), (q₁, (q₂, (q₃, tt))), tt, (h, (ar, (br, (pr, (n, tt))))), (T.val h ∷ [], (sa ∷ [], (sb ∷ [], (sp ∷ [], (N.val n ∷ [], tt)))))), tt)

      goes_in : Ok T h → ent 𝓤 (⋆ 𝓛 (‵ (flft κ₁ q₁) ∷ ‵ (flft κ₂ q₂) ∷ ‵ (flft κ₃ q₃) ∷ ‵ ((MutSlice (named 0) κ₁ (row D)).own_val ar (sa ∷ [])) ∷ ‵ ((MutSlice (named 1) κ₂ (row E)).own_val br (sb ∷ [])) ∷ ‵ ((ShrSlice (named 2) κ₃ (row G)).own_val pr (sp ∷ [])) ∷ [])) (Passed.pre to_g)
      goes_in ok =
          qed 𝓛 (‵ (flft κ₁ q₁) ∷ ‵ (flft κ₂ q₂) ∷ ‵ (flft κ₃ q₃) ∷ ‵ ((MutSlice (named 0) κ₁ (row D)).own_val ar (sa ∷ [])) ∷ ‵ ((MutSlice (named 1) κ₂ (row E)).own_val br (sb ∷ [])) ∷ ‵ ((ShrSlice (named 2) κ₃ (row G)).own_val pr (sp ∷ [])) ∷ []) ∵
          nothing ! $ owned ! (row N) (Is (row N)) (N.makes 𝓛) n _ is-n $ fjoin ! $ move ! (6 ∷ 0 ∷ []) $ fjoin ! $ move ! (5 ∷ 0 ∷ []) $ fjoin ! $ move ! (4 ∷ 0 ∷ []) $ fjoin ! $ owned ! (row T) (Is (row T)) (T.makes 𝓛) h _ ok $ fjoin ! $
          nothing ! $ move ! (4 ∷ 0 ∷ []) $ join ! $ move ! (3 ∷ 0 ∷ []) $ join ! $ move ! (2 ∷ 0 ∷ []) $ join ! $ join ! $ frame ! $ done !

      module _ (g : Callee) (C : Calls 𝓤 H) (Λ : Loops 𝓤 H) (fm : FmC 𝓤 H 𝓛.laws C) (known : Triple 𝓤 (C g) Passed) where
        walk : ent 𝓤 (on_entry 𝓛 signature (κ₀, (κ₁, (κ₂, (κ₃, tt)))) (q₀, (q₁, (q₂, (q₃, tt)))) x at) (WpFn 𝓤 H C Λ (wrapper g) (vptr b off ∷ sa ∷ sb ∷ sp ∷ N.val n ∷ []) Post)
        walk =
            qed 𝓛 ((‵ (flft κ₀ q₀) ⊛ ‵ (flft κ₁ q₁) ⊛ ‵ (flft κ₂ q₂) ⊛ ‵ (flft κ₃ q₃) ⊛ ‵ ftrue) ∷ ‵ (owns (MutRef (named 0) κ₀ (row T) ∷ MutSlice (named 1) κ₁ (row D) ∷ MutSlice (named 2) κ₂ (row E) ∷ ShrSlice (named 3) κ₃ (row G) ∷ row N ∷ []) x at) ∷ []) ∵
            split ! $ move ! (1 ∷ []) $ split ! $ move ! (1 ∷ []) $ split ! $ move ! (1 ∷ []) $ split ! $ move ! (5 ∷ []) $ fsplit ! $ fsplit3 ! $ drop ! $ move ! (2 ∷ []) $ fsplit ! $ move ! (1 ∷ []) $ fsplit ! $ move ! (1 ∷ []) $ fsplit ! $
            -- [p; n's; b; a; obs; the borrow; κ₃; true; κ₂; κ₁; κ₀]
            enter ! C Λ (wrapper g) (vptr b off ∷ sa ∷ sb ∷ sp ∷ N.val n ∷ []) _ $
            alloc1 ! (λ l₀. alloc1 ! (λ l₁. alloc1 ! (λ l₂. alloc1 ! (λ l₃. alloc1 ! (λ l₄. alloc1 ! (λ l₅. alloc1 ! (λ l₆. alloc1 ! (λ l₇. alloc1 ! (λ l₈. alloc1 ! (λ l₉. alloc1 ! (λ m₀. alloc1 ! (λ m₁. alloc0 ! $ params1 ! $
            pass1 ! (init ! 20 refl (tt, tt)) $ pass1 ! (init ! 18 refl (tt, (tt, (record { fits = ga.0 }, tt)))) $ pass1 ! (init ! 16 refl (tt, (tt, (record { fits = gb.0 }, tt)))) $ pass1 ! (init ! 14 refl (tt, (tt, (record { fits = gp.0 }, tt)))) $ pass1 ! (init ! 12 refl (N.typed 𝓛 n _ is-n).0) $ pass0 ! $
            move ! (28 ∷ 29 ∷ 34 ∷ []) $ opens ! tt (row T) {h = h} b off (λ vs. spelt ! (row T) (Is (row T)) (shows 𝓛 (row T)) (λ y. T.val y ∷ []) T.tells full_share h vs b off $
            move ! (1 ∷ []) $ peeks ! (row T) (Is (row T)) (shows 𝓛 (row T)) h (T.val h ∷ []) (λ was. drop ! $
            -- [the record's cell; the open borrow; obs; auth; the locals, the last first; p; n's; b; a; κ₃; true; κ₂; κ₁]
            assigns ! (of_opd ! (load ! (from ! (hop ! (look ! 24 refl) (stop !))) (look_raw ! 0 refl))) (from ! (stop !)) (init ! 12 refl (T.typed 𝓛 h _ was).0) $
            assigns ! (addr ! (from ! (fld ! refl (hop ! (look_in ! 22 (sub ! 0 refl (whole !))) (stop !))))) (from ! (stop !)) (init ! 10 refl (tt, tt)) $
            assigns ! (agg ! (and_then ! (load ! (from ! (stop !)) (look ! 10 refl)) (and_then ! (load ! (from ! (fld ! refl (stop !))) (look_in ! 22 (sub ! 1 refl (whole !)))) (no_more !)))) (from ! (stop !)) (init ! 8 refl (tt, (tt, (record { fits = ga.0 }, tt)))) $
            assigns ! (addr ! (from ! (fld ! refl (hop ! (look_in ! 20 (sub ! 0 refl (whole !))) (stop !))))) (from ! (stop !)) (init ! 6 refl (tt, tt)) $
            assigns ! (agg ! (and_then ! (load ! (from ! (stop !)) (look ! 6 refl)) (and_then ! (load ! (from ! (fld ! refl (stop !))) (look_in ! 20 (sub ! 1 refl (whole !)))) (no_more !)))) (from ! (stop !)) (init ! 4 refl (tt, (tt, (record { fits = gb.0 }, tt)))) $
            move ! (30 ∷ 28 ∷ 31 ∷ 32 ∷ 34 ∷ 35 ∷ []) $ join ! $ move ! (1 ∷ 0 ∷ []) $ join ! $ move ! (1 ∷ 0 ∷ []) $ join ! $ move ! (1 ∷ 0 ∷ []) $ join ! $ move ! (1 ∷ 0 ∷ []) $ join ! $ use1 𝓛 (raw (Passed.pre to_g)) (goes_in was) $
            calls_at ! fm Passed known to_g (and_then ! (load ! (from ! (stop !)) (look ! 13 refl)) (and_then ! (load ! (from ! (stop !)) (look ! 9 refl)) (and_then ! (load ! (from ! (stop !)) (look ! 5 refl)) (and_then ! (load ! (from ! (stop !)) (look ! 19 refl)) (and_then ! (load ! (from ! (stop !)) (look ! 17 refl)) (no_more !)))))) (λ v.
            use1 𝓛 (later (some (λ (m : Mv.Den). ((‵ (flft κ₁ q₁) ⊛ ‵ (flft κ₂ q₂) ⊛ ‵ (flft κ₃ q₃) ⊛ ‵ ftrue) ⊛ ‵ (Mv.own m (v ∷ []))) ⊛ raw (ensured 𝓛 passed (passed_clauses 𝓤) (κ₁, (κ₂, (κ₃, tt))) (h, (ar, (br, (pr, (n, tt))))) tt m)))) (id⊢ 𝓤 _) $ await ! tt $ pick ! (λ m.
            split ! $ move ! (1 ∷ []) $ use1 𝓛 (some (λ (ws : Unit {0} × (List D.Den × (List E.Den × (Unit {0} × (Unit {0} × Unit {0}))))). ‵ (lasts passed (κ₁, (κ₂, (κ₃, tt))) (h, (ar, (br, (pr, (n, tt))))) ws) ⊛ raw (fact 𝓤 (Told m ws.1.0 ws.1.1.0)))) (id⊢ 𝓤 _) $ pick ! (λ ws.
            split ! $ move ! (1 ∷ []) $ heard ! (Told m ws.1.0 ws.1.1.0) (λ e. fsplit ! $ drop ! $ fsplit ! $ fsplit ! $ fsplit ! $ move ! (1 ∷ []) $ feq_l ! (λ len₁. fjoin ! $ move ! (1 ∷ []) $ fsplit ! $ fsplit ! $ fsplit ! $ move ! (1 ∷ []) $ feq_l ! (λ len₂. fjoin ! $
            -- [b's last list; …; a's last list; the tokens and m; the record's cell; …]
            move ! (3 ∷ []) $ split ! $ move ! (1 ∷ []) $ peeks ! (row (moved Mv)) (Is (row (moved Mv))) (shows 𝓛 (row (moved Mv))) m (v ∷ []) (λ is. drop ! $
            land ! (from ! (stop !)) (init ! 18 refl (Mv.typed 𝓛 m _ is).0) $ rewrite ! 18 (λ (u : Val). ‵ (fat full_share ty_m l₆ 0 u)) (ap only (Mv.tells m _ is)) refl $
            -- [the tokens; b's last list; …; a's last list; the record's cell; the open borrow; obs; auth; the locals]
            assigns ! (of_opd ! (load ! (from ! (fld ! refl (stop !))) (look_in ! 18 (sub ! 1 refl (whole !))))) (from ! (hop ! (look ! 28 refl) (stop !))) (store_raw ! 4 refl (T.typed 𝓛 (Mv.flow m) _ (Mv.apart m _ is).1).0) $
            assigns ! (of_opd ! (load ! (from ! (fld ! refl (stop !))) (look_in ! 18 (sub ! 0 refl (whole !))))) (from ! (stop !)) (init ! 30 refl (R.typed 𝓛 (Mv.ans m) _ (Mv.apart m _ is).0).0) $
            owned ! (row T) (Is (row T)) (T.makes 𝓛) (Mv.flow m) _ (Mv.apart m _ is).1 $ move ! (5 ∷ 0 ∷ 6 ∷ 7 ∷ 8 ∷ []) $ closes ! tt (row T) (Mv.flow m) (T.val (Mv.flow m) ∷ []) b off $
            -- [obs; the borrow; κ₀; the tokens; b's last list; …; a's last list; the locals; …]
            returns ! (look ! 29 refl) $ forget ! 7 refl $ forget ! 9 refl $ forget ! 11 refl $ forget ! 13 refl $ forget ! 15 refl $ forget ! 17 refl $ forget ! 19 refl $ forget ! 21 refl $ forget ! 23 refl $ forget ! 25 refl $ forget ! 27 refl $ forget ! 29 refl $
            move ! (29 ∷ 30 ∷ []) $ free1 ! $ move ! (27 ∷ 28 ∷ []) $ free1 ! $ move ! (25 ∷ 26 ∷ []) $ free1 ! $ move ! (23 ∷ 24 ∷ []) $ free1 ! $ move ! (21 ∷ 22 ∷ []) $ free1 ! $ move ! (19 ∷ 20 ∷ []) $ free1 ! $ move ! (17 ∷ 18 ∷ []) $ free1 ! $ move ! (15 ∷ 16 ∷ []) $ free1 ! $ move ! (13 ∷ 14 ∷ []) $ free1 ! $ move ! (11 ∷ 12 ∷ []) $ free1 ! $ move ! (9 ∷ 10 ∷ []) $ free1 ! $ move ! (7 ∷ 8 ∷ []) $ free1 ! $ free0 ! $
            move ! (3 ∷ []) $ split ! $ move ! (1 ∷ []) $ split ! $ move ! (1 ∷ []) $ split ! $ keep ! (4 ∷ 5 ∷ 6 ∷ 9 ∷ 7 ∷ 3 ∷ 2 ∷ 0 ∷ []) $ by ! (exits m ws.1.0 ws.1.1.0 (Mv.apart m _ is).0 e len₁ len₂))))))))))))))))))))))

    pub lent_two : (g : Callee) (𝓣 : Tables 𝓤 H) → Triple 𝓤 (𝓣.C g) Passed → Meets 𝓛 signature (WpFn 𝓤 H 𝓣.C 𝓣.Λ (wrapper g)) (closing 𝓛 ended (clauses 𝓤))
    lent_two g 𝓣 known = walk_Meets 𝓛 ended stayed (Goes-ref 𝓛 4 0 tt (slot T), (Goes-gave_slice 𝓛 4 1 tt (slot D), (Goes-gave_slice 𝓛 4 2 tt (slot E), (Goes-dropped 𝓛 4 (shr_slice_of (3 ∷ []) tt (slot G)) yes (λ κs x f. refl), (Goes-none 𝓛 4 (λ _. row N) yes (λ κs x f. refl), tt))))) (clauses 𝓤)
        (WpFn 𝓤 H 𝓣.C 𝓣.Λ (wrapper g)) (WpFn-mono 𝓤 H 𝓛.laws 𝓣 (wrapper g))
        (walked 𝓛 ended stayed (clauses 𝓤) (WpFn 𝓤 H 𝓣.C 𝓣.Λ (wrapper g)) (λ κs. (mut_vals, (mut_slice_vals, (mut_slice_vals, (shr_slice_vals, ((λ y. N.val y ∷ []), tt))))))
        (λ κs. (mut_Tells (named 0) κs.0 (row T), (mut_slice_Tells (named 1) κs.1.0 (row D), (mut_slice_Tells (named 2) κs.1.1.0 (row E), (shr_slice_Tells (named 3) κs.1.1.1.0 (row G), (N.tells, tt))))))
        (λ κs qs bounds a _ are. via 𝓤 _ (fst∗ 𝓤 _ (emp 𝓤))
        (walk κs.0 κs.1.0 κs.1.1.0 κs.1.1.1.0 qs.0 qs.1.0 qs.1.1.0 qs.1.1.1.0 a.0 a.1.0 a.1.1.0 a.1.1.1.0 are.1.0.0.1 are.1.1.0.0.1 are.1.1.1.0.0.1 a.1.1.1.1.0 are.1.1.1.1.0 g 𝓣.C 𝓣.Λ (fm_of 𝓤 H 𝓛.laws 𝓣) known)))
