-- What reads give one after the other, and what a text's parts have written.
mod Reading
mod Writing
