-- That threads may share a policy, part by part.
use denote.Param.Send.{IsSend, IsSync, sendable, view_send, view_sync, recorded_send, recorded_sync, struct_send, struct_sync}
use denote.Struct.Declared.{row, shape}
use Rattle.std.proofs.Crossing as heap
use Rattle.std.proofs.MapsCrossing as maps
use Rattle.rule_compile.specs.contracts.rule.Rule as Rule
use Rattle.rule_compile.specs.contracts.rule.OptionLine as OptionLine
use Rattle.rule_compile.specs.contracts.warning.Warning as Warning
use Rattle.rule_compile.specs.contracts.name_list.NameList as NameList
use Rattle.rule_compile.specs.contracts.known.KnownRefex as KnownRefex
use Rattle.rule_compile.specs.contracts.word_index.WordIndex as WordIndex
use Rattle.rule_compile.specs.contracts.option_words.OptionWords as OptionWords
use Rattle.rule_compile.specs.contracts.role_options.RoleOptions as RoleOptions
use Rattle.rule_compile.specs.contracts.policy.Policy as Policy
use Rattle.rule_compile.specs.contracts.policy.Policy.TheInside as Inside

rule_send : IsSend Rule.the_row
rule_send = search (heap.crosses, maps.crosses, sendable) depth 100 fits 50000

rule_sync : IsSync Rule.the_row
rule_sync = search (heap.crosses, maps.crosses, sendable) depth 100 fits 50000

option_send : IsSend OptionLine.the_row
option_send = search (heap.crosses, maps.crosses, sendable) depth 30

option_sync : IsSync OptionLine.the_row
option_sync = search (heap.crosses, maps.crosses, sendable) depth 30

warning_send : IsSend Warning.the_row
warning_send = search (heap.crosses, maps.crosses, sendable) depth 30

warning_sync : IsSync Warning.the_row
warning_sync = search (heap.crosses, maps.crosses, sendable) depth 30

names_send : IsSend NameList.the_row
names_send = search (heap.crosses, maps.crosses, sendable) depth 30

names_sync : IsSync NameList.the_row
names_sync = search (heap.crosses, maps.crosses, sendable) depth 30

refex_send : IsSend KnownRefex.the_row
refex_send = search (heap.crosses, maps.crosses, sendable) depth 30

refex_sync : IsSync KnownRefex.the_row
refex_sync = search (heap.crosses, maps.crosses, sendable) depth 30

index_send : IsSend (WordIndex.the_field).row
index_send = search (heap.crosses, maps.crosses, sendable) depth 100 fits 50000

index_sync : IsSync (WordIndex.the_field).row
index_sync = search (heap.crosses, maps.crosses, sendable) depth 100 fits 50000

option_words_send : IsSend (OptionWords.the_field).row
option_words_send = search (heap.crosses, maps.crosses, sendable, index_send) depth 30

option_words_sync : IsSync (OptionWords.the_field).row
option_words_sync = search (heap.crosses, maps.crosses, sendable, index_sync) depth 30

roles_send : IsSend (RoleOptions.the_field).row
roles_send = search (heap.crosses, maps.crosses, sendable, option_words_send) depth 100 fits 50000

roles_sync : IsSync (RoleOptions.the_field).row
roles_sync = search (heap.crosses, maps.crosses, sendable, option_words_sync) depth 100 fits 50000

pub policy_send : IsSend Policy.the_row
policy_send =
    let inside = struct_send (shape Inside.the_type) (
      search (rule_send, heap.crosses, sendable) depth 30,
      (
        search (warning_send, heap.crosses, sendable) depth 30,
        (
          search (option_send, heap.crosses, sendable) depth 30,
          (
            names_send,
            (search (refex_send, heap.crosses, sendable) depth 30, (index_send, (option_words_send, (roles_send, tt)))),
          ),
        ),
      ),
    ) in
    let whole : IsSend (row Inside.the_type) = recorded_send _ _ _ (Inside.the_type).to_one inside in
    view_send (row Inside.the_type) _ _ _ _ whole

pub policy_sync : IsSync Policy.the_row
policy_sync =
    let inside = struct_sync (shape Inside.the_type) (
      search (rule_sync, heap.crosses, sendable) depth 30,
      (
        search (warning_sync, heap.crosses, sendable) depth 30,
        (
          search (option_sync, heap.crosses, sendable) depth 30,
          (
            names_sync,
            (search (refex_sync, heap.crosses, sendable) depth 30, (index_sync, (option_words_sync, (roles_sync, tt)))),
          ),
        ),
      ),
    ) in
    let whole : IsSync (row Inside.the_type) = recorded_sync _ _ _ (Inside.the_type).to_one inside in
    view_sync (row Inside.the_type) _ _ _ _ whole
