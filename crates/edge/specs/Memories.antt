-- What a sink in memory shows.
use Rattle.edge.specs.declared.mem_sink.MemSink.{MemSink}
use Rattle.edge.specs.Puts.{Memory}

abbrev pub memory_of : MemSink → Memory
memory_of s =
    record {
      device = record { failing = s.failing.items; most = s.most; calls = s.calls };
      room = s.room;
      bytes = s.bytes.items;
    }
