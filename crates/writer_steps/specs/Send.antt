-- "The writer sends the first unsent number as data if retained, else as a gap, and marks it sent". Assumes nothing.
use Rattle.std.specs.Prelude.{ℕ, false, List, [], ◌∷◌}
use Rattle.numbers.specs.Number.{rank_of, number_at}
use Rattle.numbers.specs.Refusals.{done}
use Rattle.numbers.specs.Promise.{Left1}
use Rattle.numbers.specs.Cursor.{cursor_at}
use Rattle.numbers.specs.declared.answer.Answer.{Answer}
use Rattle.numbers.specs.declared.cursor.NextNumber.{NextNumber}
use Rattle.rtps_reader_proxy.specs.declared.proxy.ReaderProxy.{ReaderProxy}
use Rattle.rtps_reader_proxy.specs.Unsent.{next_unsent_of, marked_sent_of}
use Rattle.writer_send_buffer.specs.declared.flow.WriterSendBuffer.{WriterSendBuffer}
use Rattle.writer_send_buffer.specs.Flow.{retained}
use Rattle.writer_send_buffer.specs.Buffer.{flow_view, first_of}
use Rattle.writer_steps.specs.declared.send.Sent.{Sent}
use Rattle.numbers.specs.Answers.{stepped}

-- the first unsent number; 14 where nothing is unsent
abbrev pub first_unsent : ReaderProxy → List ℕ → NextNumber
first_unsent h unsent = next_unsent_of (cursor_at 0) h unsent

-- refused where the question to the flow record or that to the reader is
abbrev pub send_answers : WriterSendBuffer → ReaderProxy → List ℕ → List Answer
send_answers f h unsent = (first_of f).answer ∷ (first_unsent h unsent).answer ∷ []

abbrev pub send_of : WriterSendBuffer → ReaderProxy → List ℕ → Left1 Sent (List ℕ)
send_of f h unsent =
    stepped (send_answers f h unsent)
    (λ a. record { result = record { answer = a; number = number_at 0; «data» = false; proxy = h }; first = unsent })
    (record {
      result = record {
        answer = done;
        number = (first_unsent h unsent).number;
        «data» = retained (rank_of (first_unsent h unsent).number) (flow_view f);
        proxy = (marked_sent_of (first_unsent h unsent).number h unsent).result.proxy;
      };
      first = (marked_sent_of (first_unsent h unsent).number h unsent).first;
    })
