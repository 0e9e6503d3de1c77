-- The reader record whole, and the reader that it stands for: a coherent picture is the form of its reader, and a valid reader is what its form shows.
-- Assumes nothing.
use Prim.Native.Nat.{ℕ, ◌-◌, ◌≤◌, max}
use mathlib.Core.Path.{◌≡◌, sym, ap, ◌∙◌}
use mathlib.Core.Bool.{true, ◌&&◌}
use mathlib.Core.List.{List, [], ◌∷◌}
use native.Mathlib.Omega.{arith}
use lib.Dec.{leb, eqb}
use lib.ListN.{length}
use lib.Seq.{length-take-le}
use borrow.Author.Tests.{leb-true, le-leb, eqb-true, eq-eqb}
use Rattle.sets.proofs.Bools.{and_left, and_right, and_both}
use Rattle.sets.proofs.Has.{From-low}
use Rattle.numbers.specs.Capacities.{top_number}
use Rattle.numbers.specs.Number.{rank_of, in_range, number_at}
use Rattle.numbers.proofs.Ranks.{rank_back, range_back, range_of, in_range_lem}
use Rattle.rising.specs.Runs.{run_coherent, room_of}
use Rattle.rising.proofs.Meaning.{Rising, rises_are, are_rising, room_take, room-length, room_ok, room-is}
use Rattle.requested_fragments.specs.Entries.{Entry}
use Rattle.requested_fragments.specs.Table.{frag_rooms_coherent, samples_room, words_room}
use Rattle.requested_fragments.proofs.OneForm.{Words}
use Rattle.requested_fragments.proofs.Both.{Valid as EntriesValid, Asks, rooms_pass, rooms_hold_lem, rooms_long, entries_valid, rooms_are}
use Rattle.rtps_reader_proxy.specs.declared.proxy.ReaderProxy.{ReaderProxy}
use Rattle.rtps_reader_proxy.specs.Reader.{Reader}
use Rattle.rtps_reader_proxy.specs.Record.{proxy_coherent, unsent_coherent, gaps_coherent, gap_floor, proxy_of, unsent_room, gap_room}
use Rattle.rtps_reader_proxy.specs.Fragments.{frags_coherent}
use Rattle.reader_record.specs.Whole.{Picture, rooms_whole, rooms_coherent, record_coherent, record_view, record_form, EachAsks, Valid}
use Rattle.rtps_reader_proxy.proofs.UnsentCalls.{UnsentIs, unsent-is}
use Rattle.rtps_reader_proxy.proofs.GapCalls.{GapsAre, gaps_are}

-- what the check of the proxy says
pub record ProxyIs (h : ReaderProxy) : Type 0 where
  pub acked : in_range h.all_acked_before 9223372036854775807 ≡ true
  pub cap-low : 1 ≤ h.unsent_cap
  pub cap_high : h.unsent_cap ≤ 1024
  pub unsent : h.unsent_count ≤ h.unsent_cap
  pub prefix : in_range h.gap_prefix_end top_number ≡ true
  pub gaps : h.gap_count ≤ 256
  pub frags : h.frag_count ≤ 16

pub proxy-is : (h : ReaderProxy) → proxy_coherent h ≡ true → ProxyIs h
proxy-is h e =
    let x1 = and_right (in_range h.all_acked_before 9223372036854775807) _ e in
    let x2 = and_right (leb 1 h.unsent_cap) _ x1 in
    let x3 = and_right (leb h.unsent_cap 1024) _ x2 in
    let x4 = and_right (leb h.unsent_count h.unsent_cap) _ x3 in
    let x5 = and_right (in_range h.gap_prefix_end top_number) _ x4 in
    record {
      acked = and_left (in_range h.all_acked_before 9223372036854775807) _ e;
      cap-low = leb-true 1 h.unsent_cap (and_left (leb 1 h.unsent_cap) _ x1);
      cap_high = leb-true h.unsent_cap 1024 (and_left (leb h.unsent_cap 1024) _ x2);
      unsent = leb-true h.unsent_count h.unsent_cap (and_left (leb h.unsent_count h.unsent_cap) _ x3);
      prefix = and_left (in_range h.gap_prefix_end top_number) _ x4;
      gaps = leb-true h.gap_count 256 (and_left (leb h.gap_count 256) (leb h.frag_count 16) x5);
      frags = leb-true h.frag_count 16 (and_right (leb h.gap_count 256) (leb h.frag_count 16) x5);
    }

-- entries, in the words of document 01 and in those of the table
asks_in : (es : List Entry) → EachAsks es → Asks es
asks_in [] a = tt
asks_in (e ∷ es) a = ((a.0.0, (λ n h. (From-low 1 e.frags n a.0.0 h, omega (arith, a.0.1.0 n h)), a.0.1.1)), asks_in es a.1)

pub asks_out : (es : List Entry) → Asks es → EachAsks es
asks_out [] a = tt
asks_out (e ∷ es) a = ((a.0.0, (λ n h. omega (arith, (a.0.1.0 n h).1), a.0.1.1)), asks_out es a.1)

pub entries_in_lem : (r : Reader) → Valid r → EntriesValid r.frags
entries_in_lem r v = record { small = v.frags-few; rises = v.frags; asks = asks_in r.frags v.asks }

-- pictures with the same parts are the same
pub same_picture : (p q : Picture) → p.proxy ≡ q.proxy → p.unsent ≡ q.unsent → p.gaps ≡ q.gaps → p.samples ≡ q.samples → p.words ≡ q.words → p ≡ q
same_picture p q a b c d e =
    ap (λ (x : ReaderProxy). record { proxy = x; unsent = p.unsent; gaps = p.gaps; samples = p.samples; words = p.words }) a
    ∙ ap (λ (x : List ℕ). record { proxy = q.proxy; unsent = x; gaps = p.gaps; samples = p.samples; words = p.words }) b
    ∙ ap (λ (x : List ℕ). record { proxy = q.proxy; unsent = q.unsent; gaps = x; samples = p.samples; words = p.words }) c
    ∙ ap (λ (x : List ℕ). record { proxy = q.proxy; unsent = q.unsent; gaps = q.gaps; samples = x; words = p.words }) d
    ∙ ap (λ (x : List ℕ). record { proxy = q.proxy; unsent = q.unsent; gaps = q.gaps; samples = q.samples; words = x }) e

-- A COHERENT PICTURE
module _ (p : Picture) (c : record_coherent p ≡ true) where
  abbrev h : ReaderProxy
  h = p.proxy

  whole : rooms_whole p ≡ true
  whole = and_left (rooms_whole p) (rooms_coherent p) c

  others : (eqb (length p.gaps) 256 && eqb (length p.samples) 16) ≡ true
  others = and_right (eqb (length p.unsent) p.proxy.unsent_cap) (eqb (length p.gaps) 256 && eqb (length p.samples) 16) whole

  pub unsent_long : length p.unsent ≡ p.proxy.unsent_cap
  unsent_long = eqb-true (length p.unsent) p.proxy.unsent_cap (and_left (eqb (length p.unsent) p.proxy.unsent_cap) (eqb (length p.gaps) 256 && eqb (length p.samples) 16) whole)

  pub gaps_long : length p.gaps ≡ 256
  gaps_long = eqb-true (length p.gaps) 256 (and_left (eqb (length p.gaps) 256) (eqb (length p.samples) 16) others)

  pub samples_long : length p.samples ≡ 16
  samples_long = eqb-true (length p.samples) 16 (and_right (eqb (length p.gaps) 256) (eqb (length p.samples) 16) others)

  rooms : rooms_coherent p ≡ true
  rooms = and_right (rooms_whole p) (rooms_coherent p) c

  pub us : UnsentIs p.proxy p.unsent
  us = unsent-is p.proxy p.unsent (and_left (unsent_coherent p.proxy p.unsent) (gaps_coherent p.proxy p.gaps && frags_coherent p.proxy p.samples p.words) rooms)

  rest : (gaps_coherent p.proxy p.gaps && frags_coherent p.proxy p.samples p.words) ≡ true
  rest = and_right (unsent_coherent p.proxy p.unsent) (gaps_coherent p.proxy p.gaps && frags_coherent p.proxy p.samples p.words) rooms

  pub gs : GapsAre p.proxy p.gaps
  gs = gaps_are p.proxy p.gaps (and_left (gaps_coherent p.proxy p.gaps) (frags_coherent p.proxy p.samples p.words) rest)

  pub fs : frag_rooms_coherent p.proxy.frag_count p.samples p.words ≡ true
  fs = and_right (proxy_coherent p.proxy) (frag_rooms_coherent p.proxy.frag_count p.samples p.words) (and_right (gaps_coherent p.proxy p.gaps) (frags_coherent p.proxy p.samples p.words) rest)

  pub hs : ProxyIs p.proxy
  hs = proxy-is p.proxy us.proxy

  -- each part is that of its reader
  pub acked_back : number_at (rank_of p.proxy.all_acked_before) ≡ p.proxy.all_acked_before
  acked_back = range_back p.proxy.all_acked_before 9223372036854775807 (omega arith) hs.acked

  pub prefix_back : number_at (rank_of p.proxy.gap_prefix_end) ≡ p.proxy.gap_prefix_end
  prefix_back = range_back p.proxy.gap_prefix_end top_number (omega arith) hs.prefix

  pub unsent_back : (length (record_view p).unsent ≡ p.proxy.unsent_count) × (unsent_room (record_view p) ≡ p.unsent)
  unsent_back = (
    length-take-le p.proxy.unsent_count p.unsent us.run.fits,
    ap (λ (m : ℕ). room_of m (record_view p).unsent) (sym unsent_long) ∙ sym (room-is 0 p.proxy.unsent_count p.unsent us.run),
  )

  pub gaps_back : (length (record_view p).gaps ≡ p.proxy.gap_count) × (gap_room (record_view p) ≡ p.gaps)
  gaps_back = (
    length-take-le p.proxy.gap_count p.gaps gs.run.fits,
    ap (λ (m : ℕ). room_of m (record_view p).gaps) (sym gaps_long) ∙ sym (room-is (gap_floor p.proxy) p.proxy.gap_count p.gaps gs.run),
  )

  pub view_valid : Valid (record_view p)
  view_valid =
      let v = entries_valid p.proxy.frag_count p.samples p.words fs in
      record {
        acked = (in_range_lem p.proxy.all_acked_before 9223372036854775807 hs.acked).1;
        cap-low = hs.cap-low;
        cap_high = hs.cap_high;
        unsent-few = omega (arith, unsent_back.0, hs.unsent);
        unsent = are_rising 0 (record_view p).unsent us.run.rises;
        prefix = (in_range_lem p.proxy.gap_prefix_end top_number hs.prefix).1;
        gaps-few = omega (arith, gaps_back.0, hs.gaps);
        gaps = are_rising (gap_floor p.proxy) (record_view p).gaps gs.run.rises;
        frags-few = v.small;
        frags = v.rises;
        asks = asks_out (record_view p).frags v.asks;
      }

  -- THERE AND BACK: nothing in the record is outside its reader
  module _ (w : Words p.words) where
    pub frags_back : (length (record_view p).frags ≡ p.proxy.frag_count) × (samples_room 16 (record_view p).frags ≡ p.samples) × (words_room 16 (record_view p).frags ≡ p.words)
    frags_back =
        let r = rooms_are p.proxy.frag_count p.samples p.words fs w in (
          sym r.0,
          ap (λ (k : ℕ). samples_room k (record_view p).frags) (sym samples_long) ∙ sym r.1,
          ap (λ (k : ℕ). words_room k (record_view p).frags) (sym samples_long) ∙ sym r.2,
        )

    pub form_view : record_form (record_view p) ≡ p
    form_view = same_picture (record_form (record_view p)) p same_head unsent_back.1 gaps_back.1 frags_back.1 frags_back.2
      where
        same_head : proxy_of (record_view p) ≡ p.proxy
        same_head = rw (acked_back, unsent_back.0, prefix_back, gaps_back.0, frags_back.0)

-- A VALID READER
module _ (r : Reader) (v : Valid r) where
  rises : Rising 0 r.unsent
  rises = rises_are 0 r.unsent v.unsent

  gap-rises : Rising (max r.prefix (r.acked - 1)) r.gaps
  gap-rises = rises_are (max r.prefix (r.acked - 1)) r.gaps v.gaps

  acked-is : rank_of (proxy_of r).all_acked_before ≡ r.acked
  acked-is = rank_back r.acked (omega (arith, v.acked))

  prefix-is : rank_of (proxy_of r).gap_prefix_end ≡ r.prefix
  prefix-is = rank_back r.prefix (omega (arith, v.prefix))

  pub view_form : record_view (record_form r) ≡ r
  view_form =
      rw (acked-is, prefix-is, room_take r.cap r.unsent, room_take 256 r.gaps, rooms_hold_lem 16 r.frags (entries_in_lem r v) v.frags-few)

  is-coherent : proxy_coherent (proxy_of r) ≡ true
  is-coherent =
      rw (
        range_of r.acked 9223372036854775807 (omega arith) v.acked,
        range_of r.prefix top_number (omega arith) v.prefix,
        le-leb 1 r.cap v.cap-low,
        le-leb r.cap 1024 v.cap_high,
        le-leb (length r.unsent) r.cap v.unsent-few,
        le-leb (length r.gaps) 256 v.gaps-few,
        le-leb (length r.frags) 16 v.frags-few,
      )

  pub form_coherent : record_coherent (record_form r) ≡ true
  form_coherent =
      let fl : gap_floor (proxy_of r) ≡ max r.prefix (r.acked - 1) = rw (acked-is, prefix-is) in
      let u : run_coherent 0 (length r.unsent) (unsent_room r) ≡ true = room_ok 0 r.cap r.unsent v.unsent-few rises in
      let g : run_coherent (gap_floor (proxy_of r)) (length r.gaps) (gap_room r) ≡ true = ap (λ (x : ℕ). run_coherent x (length r.gaps) (gap_room r)) fl ∙ room_ok (max r.prefix (r.acked - 1)) 256 r.gaps v.gaps-few gap-rises in
      let lu = room-length r.cap r.unsent v.unsent-few in
      let lg = room-length 256 r.gaps v.gaps-few in
      let ls = rooms_long 16 r.frags v.frags-few in
      and_both (rooms_whole (record_form r)) (rooms_coherent (record_form r))
      (and_both (eqb (length (unsent_room r)) r.cap) (eqb (length (gap_room r)) 256 && eqb (length (samples_room 16 r.frags)) 16) (eq-eqb (length (unsent_room r)) r.cap lu)
      (and_both (eqb (length (gap_room r)) 256) (eqb (length (samples_room 16 r.frags)) 16) (eq-eqb (length (gap_room r)) 256 lg) (eq-eqb (length (samples_room 16 r.frags)) 16 ls)))
      (and_both (unsent_coherent (proxy_of r) (unsent_room r)) (gaps_coherent (proxy_of r) (gap_room r) && frags_coherent (proxy_of r) (samples_room 16 r.frags) (words_room 16 r.frags))
      (and_both (proxy_coherent (proxy_of r)) (leb (length (unsent_room r)) r.cap && run_coherent 0 (length r.unsent) (unsent_room r)) is-coherent
      (and_both (leb (length (unsent_room r)) r.cap) (run_coherent 0 (length r.unsent) (unsent_room r)) (le-leb (length (unsent_room r)) r.cap (omega (arith, lu))) u))
      (and_both (gaps_coherent (proxy_of r) (gap_room r)) (frags_coherent (proxy_of r) (samples_room 16 r.frags) (words_room 16 r.frags))
      (and_both (proxy_coherent (proxy_of r)) (leb (length (gap_room r)) 256 && run_coherent (gap_floor (proxy_of r)) (length r.gaps) (gap_room r)) is-coherent
      (and_both (leb (length (gap_room r)) 256) (run_coherent (gap_floor (proxy_of r)) (length r.gaps) (gap_room r)) (le-leb (length (gap_room r)) 256 (omega (arith, lg))) g))
      (and_both (proxy_coherent (proxy_of r)) (frag_rooms_coherent (length r.frags) (samples_room 16 r.frags) (words_room 16 r.frags)) is-coherent (rooms_pass 16 r.frags (entries_in_lem r v) v.frags-few (omega arith)))))
