mod Crosses
mod DoorLemmas
mod Appended
mod WorkLemmas
mod HandLemmas
mod AllLemmas
