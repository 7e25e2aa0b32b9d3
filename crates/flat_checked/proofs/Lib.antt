mod Frame
