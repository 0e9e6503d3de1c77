-- Lines, read. Assumes nothing.
use mathlib.Core.Path.{◌≡◌, refl}
use mathlib.Core.List.{[], ◌∷◌}
use Rattle.trace_lines.specs.Words.{bytes}
use Rattle.trace_lines.specs.Lines.{said, op_new, op_match, op_write, op_ack, op_sent, op_frag, op_evict, unknown}

pub new : said 256 (bytes "op=new window=1 backlog=8 retain=4 slots=4") ≡ op_new 1 8 4 4
new = refl

pub match : said 256 (bytes "op=match reader=1") ≡ op_match 1
match = refl

pub write : said 256 (bytes "op=write len=3") ≡ op_write 3
write = refl

pub ack : said 256 (bytes "op=ack reader=1 base=2 set=") ≡ op_ack 1 2 []
ack = refl

pub sent : said 256 (bytes "op=sent reader=2 seq=9223372036854775807") ≡ op_sent 2 9223372036854775807
sent = refl

pub frag : said 256 (bytes "op=frag reader=1 seq=9 set=0001,3") ≡ op_frag 1 9 (1 ∷ 3 ∷ [])
frag = refl

pub evict : said 256 (bytes "op=evict before=0000000000000000001") ≡ op_evict 1
evict = refl

pub empty : said 256 [] ≡ unknown
empty = refl

pub twenty : said 256 (bytes "op=evict before=00000000000000000001") ≡ unknown
twenty = refl

pub large : said 256 (bytes "op=evict before=9223372036854775808") ≡ unknown
large = refl

pub space : said 256 (bytes "op=evict before=1 ") ≡ unknown
space = refl

pub order : said 256 (bytes "op=ack base=2 reader=1 set=") ≡ unknown
order = refl

pub falls : said 256 (bytes "op=ack reader=1 base=3 set=5,5") ≡ unknown
falls = refl

pub below : said 256 (bytes "op=ack reader=1 base=3 set=2") ≡ unknown
below = refl

pub trailing : said 256 (bytes "op=ack reader=1 base=3 set=3,") ≡ unknown
trailing = refl
