use Rattle.std.proofs.Common.{List, ap, ◌∙◌, subst, arith}
use Rattle.tombstones.specs.declared.entry.Entry.{Entry}
use Rattle.log_levels.specs.Shapes.{Held}
use Rattle.log_levels.specs.Kept.{IsUpcoming}
use Rattle.log_levels.proofs.log_map.LogMap.walk.Goals as goal

pub returns : goal.returns
returns c = record {
  buffer = subst (λ (buffer : List Entry). IsUpcoming buffer c.args.from c.from-buffered.result)
      (c.deref.ensures.value ∙ ap (λ (held : Held). held.buffer) c.self.view_is) c.from-buffered.ensures;
  levels = record {
    count = c.places-places.ensures.count;
    each = λ i level inside is. (c.args.from, (omega arith, c.places-places.ensures.each i level inside is));
  };
  next = c.heads-heads.ensures;
}
