use Rattle.room_records.proofs.Common.{ap, [], nat_cmp, unwrap_or, lookup, is_at, option_map, value_in}
use Rattle.room_records.proofs.mem.MemShelf.empty.Goals as goal

pub returns : goal.returns
returns c = λ i. record {
  objects = record {
    node = λ id. c.new.ensures id i;
    entries = λ id. ap (λ es. unwrap_or (option_map (λ e. e.items) (value_in (lookup (is_at (nat_cmp id)) es))) [])
        c.new-2.ensures i;
    document = λ id. ap (λ es. option_map (λ d. d.items) (value_in (lookup (is_at (nat_cmp id)) es))) c.new-3.ensures i;
    next = 2;
  };
  session = λ sid. c.new-4.ensures.sessions sid i;
  slot = λ sid slot. c.new-4.ensures.slots sid slot i;
}
